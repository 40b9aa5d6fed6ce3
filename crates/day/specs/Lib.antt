pub mod Calls
pub mod Following
pub mod Laws
pub mod State

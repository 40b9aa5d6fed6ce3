pub mod Following
pub mod Upholding

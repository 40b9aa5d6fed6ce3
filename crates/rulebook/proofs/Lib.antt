pub mod Sheet
pub mod Lackings
pub mod Opening

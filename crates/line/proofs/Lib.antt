pub mod Cuts
pub mod Digits
pub mod Joining
pub mod Pieces
pub mod Reading
pub mod Splitting

pub mod Admitting
pub mod Entering
pub mod Numbering
pub mod Places
pub mod Start

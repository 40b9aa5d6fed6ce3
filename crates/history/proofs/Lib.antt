pub mod Firsts
pub mod Steps
pub mod Kept
pub mod Asks
pub mod Whole
pub mod Next
pub mod Collarless
pub mod Listed

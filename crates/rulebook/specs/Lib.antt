pub mod Letters
pub mod Limits
pub mod Sheets
pub mod Hours
pub mod Faults
pub mod Words
pub mod Meaning
pub mod Laws

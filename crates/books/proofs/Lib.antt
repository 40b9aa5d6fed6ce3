pub mod Firsts
pub mod Exact
pub mod Listed
pub mod Cases
pub mod TableRows

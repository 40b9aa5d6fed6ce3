pub mod Commands
pub mod Fields
pub mod Firsts
pub mod Laws
pub mod Lines
pub mod Numbers
pub mod Readers
pub mod Words

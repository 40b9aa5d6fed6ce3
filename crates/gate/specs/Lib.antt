pub mod Quotes
pub mod Sentences

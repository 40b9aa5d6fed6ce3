pub mod Quotients
pub mod Nearness
pub mod Search
pub mod Answered
pub mod Told
pub mod Neighbours

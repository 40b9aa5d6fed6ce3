pub mod Faults
pub mod History
pub mod Prices
pub mod Orders
pub mod Board
pub mod Rulings
pub mod Law

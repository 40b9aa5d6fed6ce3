pub mod Sets
pub mod Questions
pub mod Closest
pub mod Faults
pub mod Makers
pub mod Rounding
pub mod Laws
pub mod Worked

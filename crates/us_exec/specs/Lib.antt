pub mod Past
pub mod Values
pub mod WellFormed
pub mod Conflict
pub mod Consistency
pub mod Facts
pub mod Examples

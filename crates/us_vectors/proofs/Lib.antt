pub mod Loops
pub mod Sums
pub mod Entries
pub mod Groups

pub mod Loops
pub mod Partitions

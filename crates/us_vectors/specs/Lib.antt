pub mod Tables
pub mod Groups
pub mod Counts
pub mod Matrices

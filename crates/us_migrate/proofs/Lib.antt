pub mod Encoded
pub mod Loops
pub mod Writing

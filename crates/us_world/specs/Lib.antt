pub mod Limits
pub mod WorldState
pub mod Lines

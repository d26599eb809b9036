pub mod Ballots
pub mod Rules
pub mod Worlds
pub mod Example

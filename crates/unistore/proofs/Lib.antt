mod Reading
pub mod LinesInTurn
pub mod Turns
mod Texts
mod Causes
mod InfallibleReplay
mod Complete
pub mod Built

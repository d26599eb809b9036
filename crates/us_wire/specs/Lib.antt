pub mod Frames
pub mod Answers
pub mod Fields
pub mod Runs
pub mod Decoders
pub mod Whole

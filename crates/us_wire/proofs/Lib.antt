pub mod Fronts
pub mod Readers
pub mod Encoded
pub mod Pieces
pub mod Combined
pub mod WholeFrames

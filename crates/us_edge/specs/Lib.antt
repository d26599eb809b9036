pub mod Faults
pub mod FaultTexts
pub mod Streams
pub mod Numbers
pub mod Scripts
pub mod Links
pub mod Sure
pub mod MemoryLinks

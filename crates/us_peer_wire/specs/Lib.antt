pub mod Parts
pub mod Messages
pub mod Packets
pub mod Lengths
pub mod SameEntry

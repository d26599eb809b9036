pub mod Acts
pub mod Snapshots
pub mod Ascending
pub mod Laws

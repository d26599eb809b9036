pub mod Ascending
pub mod Defaults
pub mod Histories
pub mod Keys
pub mod Orders
pub mod Tags
pub mod Updates
pub mod Comparison

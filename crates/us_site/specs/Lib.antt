pub mod Events
pub mod Shards
pub mod Served

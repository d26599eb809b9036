pub mod Schedule
pub mod Performing
pub mod Report
pub mod Status
pub mod Answers
pub mod Built
pub mod Completeness

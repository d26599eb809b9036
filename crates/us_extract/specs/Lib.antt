pub mod AscendingCheck
pub mod Decisions
pub mod PastSearch

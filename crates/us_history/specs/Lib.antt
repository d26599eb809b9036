pub mod Histories
pub mod Pasts
pub mod Arbitration
pub mod Executions
pub mod States
pub mod Example

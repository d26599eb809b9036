pub mod Words
pub mod Operations
pub mod Transactions
pub mod Load
pub mod Grammar
pub mod Rows

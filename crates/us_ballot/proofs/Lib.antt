pub mod Sending
pub mod Onto
pub mod Ready
pub mod Promises
pub mod Repeating
pub mod Dropped

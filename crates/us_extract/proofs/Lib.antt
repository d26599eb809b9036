pub mod AllAscend
pub mod Orders
pub mod Places
pub mod Searched
pub mod SessionOrder
pub mod Unlinked

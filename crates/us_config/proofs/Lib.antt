pub mod Lists
pub mod Addresses
pub mod Keys
pub mod Documents
pub mod Verdicts
pub mod Pairs
pub mod Made

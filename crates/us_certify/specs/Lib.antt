pub mod Certification
pub mod Logs
pub mod Laws
pub mod Example

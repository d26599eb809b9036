pub mod Conflicts
pub mod Places

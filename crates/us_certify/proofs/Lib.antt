pub mod Fronts
pub mod Reasons
pub mod Certifying
pub mod Mutual

pub mod Written
pub mod Posts
pub mod Lengths
pub mod Fitting
pub mod Turns

pub mod Place
pub mod Shape
pub mod Vector
pub mod Lattice

pub mod Vectors
pub mod Arrays
pub mod Lattice

pub mod Premise
pub mod Laws

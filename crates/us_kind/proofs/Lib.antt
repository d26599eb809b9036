pub mod ListLemmas
pub mod Members
pub mod Permutations
pub mod SameBytes
pub mod TestLemmas
pub mod TreeViews

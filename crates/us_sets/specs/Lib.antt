pub mod Elements
pub mod Flag
pub mod FlagLaws
pub mod Marks
pub mod MarksLaws
pub mod Room
pub mod Set
pub mod SetLaws

pub mod Counter
pub mod CounterLaws
pub mod Register
pub mod RegisterLaws
pub mod Sums

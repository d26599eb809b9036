pub mod LogPlaces
pub mod Sorting

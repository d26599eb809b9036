pub mod OneMore
pub mod LastPlace

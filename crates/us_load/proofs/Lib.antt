pub mod Turns
pub mod Frames
pub mod Printed
pub mod Allowed
pub mod Grammar

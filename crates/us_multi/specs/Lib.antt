pub mod Multi
pub mod MultiLaws
pub mod Present
pub mod Room
pub mod Writes

pub mod RequestLaws
pub mod ReplyLaws

pub mod HexText
pub mod WritingLemmas

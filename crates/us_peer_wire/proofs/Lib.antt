pub mod PartLaws
pub mod MessageLaws
pub mod PacketLaws
pub mod PacketLengths
pub mod ReadLemmas
pub mod WriteLemmas

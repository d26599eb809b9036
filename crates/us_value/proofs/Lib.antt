pub mod CatalogLemmas
pub mod UpdateCount
pub mod KindLaws
pub mod KindShares
pub mod OwnUpdates

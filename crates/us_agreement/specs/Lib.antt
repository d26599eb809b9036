pub mod SiteCounts
pub mod Laws

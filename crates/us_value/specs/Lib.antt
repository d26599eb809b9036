pub mod Catalogs
pub mod Items
pub mod SameItem
pub mod Laws
pub mod Lengths
pub mod Values

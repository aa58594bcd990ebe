pub mod Extents
pub mod Journals
pub mod Laws
pub mod Texts

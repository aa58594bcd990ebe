pub mod Entries
pub mod Edges
pub mod Listings
pub mod Publishing

pub mod OfGroups
pub mod OfSpots

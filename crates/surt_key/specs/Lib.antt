pub mod Addresses
pub mod Key
pub mod Labels
pub mod Sorted
pub mod Spaces
pub mod Targets

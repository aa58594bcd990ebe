pub mod Groups
pub mod Maps
pub mod Sharing

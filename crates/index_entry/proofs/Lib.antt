pub mod Entries
pub mod Members
pub mod OneIndex
pub mod Orders

pub mod Passes
pub mod Orderly
pub mod Sharing
pub mod Company
pub mod Members

pub mod Address
pub mod Forms
pub mod Keyed
pub mod Links
pub mod Questions
pub mod ReadBack

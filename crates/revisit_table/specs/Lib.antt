pub mod Groups
pub mod Lists
pub mod Table

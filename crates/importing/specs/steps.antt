pub mod Importing
pub mod Taking

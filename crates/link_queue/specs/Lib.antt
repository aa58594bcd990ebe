pub mod Accounts
pub mod Rule
pub mod Steps
pub mod Serving

pub mod Seen
pub mod Rule
pub mod Steps
pub mod Known
pub mod Phases

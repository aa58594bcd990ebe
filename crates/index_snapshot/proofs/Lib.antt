pub mod Beginnings
pub mod Adding
pub mod Appending
pub mod Outcomes
pub mod Bringing
pub mod Rules

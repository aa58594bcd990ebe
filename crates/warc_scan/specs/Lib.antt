pub mod Answers
pub mod Asking
pub mod Groups
pub mod Headed
pub mod Outlines
pub mod steps

pub mod Calls
pub mod Doubts
pub mod Held
pub mod Mending
pub mod State
pub mod steps

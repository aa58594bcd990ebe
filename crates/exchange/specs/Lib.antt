pub mod Aim
pub mod Fetches
pub mod Receiving
pub mod Refusals
pub mod steps
pub mod Storing
pub mod Texts
pub mod Writing

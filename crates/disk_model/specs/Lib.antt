pub mod Changes
pub mod Crash
pub mod Device
pub mod Image
pub mod Laws
pub mod Moments
pub mod steps

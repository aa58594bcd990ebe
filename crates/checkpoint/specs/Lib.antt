pub mod Checkpoints
pub mod Clearing
pub mod Faults
pub mod OfVolume
pub mod Putting
pub mod Reading
pub mod steps

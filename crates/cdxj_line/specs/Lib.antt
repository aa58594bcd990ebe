pub mod Lengths
pub mod Lines
pub mod MediaType
pub mod Parts
pub mod Told
pub mod steps

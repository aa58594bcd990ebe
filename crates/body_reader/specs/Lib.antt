pub mod BodySoFar
pub mod BodyStream
pub mod Readings
pub mod steps

pub mod BodyLaws
pub mod Framings
pub mod Lent
pub mod Slices
pub mod steps

pub mod FrontLaws
pub mod HeadReading
pub mod Heads
pub mod Sections
pub mod steps

pub mod Counting
pub mod OpenFiles
pub mod steps

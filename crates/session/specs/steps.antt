pub mod Endings
pub mod Gaining
pub mod Heads
pub mod Reads
pub mod Stages
pub mod Wire

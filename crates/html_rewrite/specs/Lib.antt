pub mod Bytes
pub mod Links
pub mod Names
pub mod Pieces
pub mod Rewritten
pub mod Split
pub mod Tags
pub mod steps

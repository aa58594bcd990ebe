pub mod Rolling
pub mod TakingPieces
pub mod steps

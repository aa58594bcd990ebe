-- What only proofs read.
pub mod Moves
pub mod Next
pub mod Readings

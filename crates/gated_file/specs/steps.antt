-- What only proofs read.
pub mod Mending

-- What only proofs read.
pub mod Paths
pub mod Reading

-- What only proofs read.
pub mod Lines
pub mod Texts

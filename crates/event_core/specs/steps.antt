-- What only proofs read.
pub mod Standing

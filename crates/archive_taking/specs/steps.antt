-- What only proofs read.
pub mod Taking

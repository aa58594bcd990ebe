-- What only proofs read.
pub mod Digests
pub mod Founds
pub mod Responses

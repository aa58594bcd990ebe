-- What only proofs read.
pub mod Batches
pub mod Files
pub mod Nexts
pub mod Runs
pub mod Shares

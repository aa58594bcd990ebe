-- What only proofs read: no public clause comes to it.
pub mod Told

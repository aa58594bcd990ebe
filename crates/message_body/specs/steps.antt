-- What only proofs read: no public clause comes to it.
pub mod Decoding
pub mod Numerals
pub mod Splits

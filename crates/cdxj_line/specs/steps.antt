-- What only proofs read.
pub mod Numerals
pub mod Shown
pub mod Strings
pub mod Unescaped
pub mod Written

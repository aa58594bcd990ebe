pub mod Alphabet
pub mod Groups
pub mod Texts

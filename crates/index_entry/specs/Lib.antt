pub mod Facts
pub mod OfBook
pub mod OfLine
pub mod Order
pub mod Queries

-- What only proofs read.
pub mod Dates
pub mod InfoFronts
pub mod Kinds
pub mod OpeningFronts
pub mod SplitLines

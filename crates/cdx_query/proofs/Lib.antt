pub mod GivenParts
pub mod ItemLengths
pub mod OneAnswer
pub mod OneQuery
pub mod Passed
pub mod Starts
pub mod ValueLemmas

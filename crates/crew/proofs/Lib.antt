pub mod CrewLaws
pub mod CrewSums

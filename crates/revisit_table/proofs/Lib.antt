pub mod Rising
pub mod Searches
pub mod MapLemmas
pub mod TableLemmas
pub mod GroupLemmas

pub mod AsciiLemmas
pub mod OneForm
pub mod ReadBackLaws
pub mod ReadBackLemmas

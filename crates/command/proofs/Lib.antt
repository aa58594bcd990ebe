pub mod BeginningLaws
mod FileNames
pub mod GateLaws
mod HostTexts
pub mod OpeningLaws
mod WordsLemmas
pub mod SettlingLaws
pub mod StandingLaws

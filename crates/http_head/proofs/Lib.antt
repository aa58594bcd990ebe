mod BlankLaws
mod FeedLaws
pub mod FrontLaws
mod GrammarLaws
mod HeaderLaws
mod LimitLaws
mod ParseLaws
pub mod SectionLaws
mod SeekLaws

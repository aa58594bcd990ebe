pub mod Judging
pub mod OneVerdict
pub mod RestLaws
pub mod RunLaws
pub mod ShareLaws

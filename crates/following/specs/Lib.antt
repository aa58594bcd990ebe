pub mod Follows
pub mod StopTexts

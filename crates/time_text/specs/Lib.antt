pub mod Calendar
pub mod Bytes
pub mod Texts
pub mod Blanks
pub mod Reading

pub mod Counting
pub mod Following
pub mod Opening
pub mod Refusing
pub mod Telling

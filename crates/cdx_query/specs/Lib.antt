pub mod Answers
pub mod Given
pub mod Laws
pub mod Passing
pub mod Picking
pub mod Reading
pub mod Values

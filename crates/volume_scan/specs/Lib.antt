pub mod Books
pub mod Damage
pub mod Placed
pub mod Scannings
pub mod Unread
pub mod Windows
pub mod steps

pub mod Clocks
pub mod Echoes
pub mod HangUps
pub mod NewLinks

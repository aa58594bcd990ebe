pub mod Choosing
pub mod Damage

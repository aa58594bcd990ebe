pub mod Imports
pub mod Inputs
pub mod Keeping
pub mod steps
pub mod Texts

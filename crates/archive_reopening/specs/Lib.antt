pub mod Known
pub mod Making
pub mod Reopening
pub mod Standing

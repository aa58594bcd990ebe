pub mod steps
pub mod Verified
pub mod Verifies

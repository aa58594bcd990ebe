pub mod Entry
pub mod Found
pub mod Past
pub mod Standing

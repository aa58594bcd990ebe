pub mod Moving
pub mod NumberFormat

pub mod Files
pub mod steps

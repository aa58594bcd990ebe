pub mod Items
pub mod Finding

pub mod Lines
pub mod StoredFields
pub mod Bodies
pub mod Mementos

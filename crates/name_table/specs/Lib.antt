pub mod NameTable
pub mod HeaderFields

pub mod FieldLemmas
pub mod MementoLemmas

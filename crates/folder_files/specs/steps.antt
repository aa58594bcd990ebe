-- The laws' proofs. They stand here since the crates above cite them in theirs.
pub mod CountLaws
pub mod OpenLaws

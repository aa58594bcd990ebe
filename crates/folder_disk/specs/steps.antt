-- The laws' proofs. They stand here since the impl of `Disk` cites them.
pub mod BegunLaws
pub mod FoundLaws
pub mod GapLaws
pub mod NameLaws
pub mod ReaderLaws

-- The laws' proofs. They stand here since an impl of `Disk` cites them.
pub mod FileLaws
pub mod FolderLaws
pub mod KnownLaws
pub mod MadeLaws
pub mod MendLaws
pub mod RangeLaws
pub mod ReadingLaws
pub mod SeenLaws
pub mod SettleLaws
pub mod SureLaws
pub mod SyncLaws
pub mod TimeLaws
pub mod TornLaws
pub mod WholeLaws

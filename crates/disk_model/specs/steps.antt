-- What only proofs read. The laws of images, of crashes and of changes stand here since an impl of `Disk` cites them.
pub mod ChangesLaws
pub mod CrashLaws
pub mod ImageLaws
pub mod Pending
pub mod Synced

pub mod HeadLaws
mod LineFeeds
mod TargetLemmas
pub mod ChunkLaws
pub mod CutLaws
pub mod GrowthLaws
pub mod PayloadLaws
pub mod CutResponseLaws
mod Rows

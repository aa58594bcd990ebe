mod Joined
mod KeyLemmas
mod LabelLemmas
mod NoSpace
mod SortedUnique
pub mod SpacelessKeys
mod SpacelessUrls
mod TargetKeys

pub mod FindingLaws
pub mod IndexLaws
pub mod ShownLaws
pub mod SortLaws

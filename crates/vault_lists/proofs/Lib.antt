pub mod ItemLaws
pub mod FindingLaws

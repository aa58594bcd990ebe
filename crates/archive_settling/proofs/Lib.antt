pub mod FinishedLaws
pub mod KeepingLaws
pub mod MissingLaws
pub mod SettledLaws
pub mod SupplyingLaws
pub mod WalkingLaws

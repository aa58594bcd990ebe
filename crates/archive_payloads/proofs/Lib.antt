pub mod AskLaws
pub mod ChooseLaws
pub mod DamageLaws
pub mod FaultLaws
pub mod OriginalLaws
pub mod SinceLaws
pub mod SliceLaws

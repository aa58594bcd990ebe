pub mod KnownLaws
pub mod MadeLaws
pub mod NamespaceLaws
pub mod ReopenLaws
pub mod StoodLaws

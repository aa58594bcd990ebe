-- The laws' proofs. They stand here since impls of `Disk` cite them.
pub mod FurtherLaws
pub mod SettleLaws
pub mod StateLaws
pub mod SureLaws
pub mod TrustLaws

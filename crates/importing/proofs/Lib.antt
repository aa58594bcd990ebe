mod ImportLaws
mod InputLaws
mod KeepingLaws
mod TakingLaws

pub mod MomentLaws
mod Pending
mod Steps
mod Stops

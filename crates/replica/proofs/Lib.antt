pub mod FollowLaws
mod FrontLaws
mod StoodLaws
mod TakeLaws

pub mod Locks
pub mod Status
pub mod Streams

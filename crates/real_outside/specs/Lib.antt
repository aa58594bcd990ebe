pub mod Dialers
pub mod Disks
pub mod Ends
pub mod Gates
pub mod Links
pub mod Sinks

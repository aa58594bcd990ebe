pub mod Acknowledged
pub mod Events
pub mod Faults
pub mod Machine
pub mod Running
pub mod steps

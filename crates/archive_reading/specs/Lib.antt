pub mod Bringing
pub mod Decoding
pub mod Digests
pub mod KeptGroups
pub mod Rereading

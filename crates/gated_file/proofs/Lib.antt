mod Appending
mod Bytes
mod Closing
mod Mending
mod Putting
mod Results
pub mod RewriteLaws

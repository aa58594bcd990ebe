mod Adding
mod Composing
mod Files
mod Last
mod Making
mod Preparing
mod Rolling

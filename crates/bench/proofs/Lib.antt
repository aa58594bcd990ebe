pub mod AllKeys
mod Numbers

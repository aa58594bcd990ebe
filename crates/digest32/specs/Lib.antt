pub mod Base32

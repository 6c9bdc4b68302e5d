pub mod Doubles
pub mod First
pub mod Hashes
pub mod Indexed
pub mod Paths
pub mod Seen
pub mod Symbols

pub mod Commands
pub mod Held

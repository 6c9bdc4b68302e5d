pub mod Commands
pub mod Devices
pub mod Lines
pub use Rattle.clap.specs.Words
pub mod inner

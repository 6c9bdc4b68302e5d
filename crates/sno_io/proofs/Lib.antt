pub mod Bytes
pub mod Commands
pub mod FirstLines
pub mod HeldBytes
pub mod HeldJobs
pub mod Numbers
pub mod Readings

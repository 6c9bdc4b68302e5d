pub mod Calling
pub mod Endings
pub mod Running
pub mod Told
pub mod Telling

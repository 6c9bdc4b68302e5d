pub mod Turns
pub mod Matches
pub mod Statements
pub mod Steps
pub mod Running
pub mod inner

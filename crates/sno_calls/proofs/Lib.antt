mod Searches
mod Tellings
pub mod Values

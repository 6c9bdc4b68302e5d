pub mod Bytes
pub mod Judging
pub mod Layouts
pub mod Links
pub mod Parsed
pub mod Phrases
pub mod Pieces
pub mod Program

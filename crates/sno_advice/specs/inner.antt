pub mod Beginning
pub mod Errors

pub mod Calls
pub mod Converted
pub mod Effects
pub mod Growing
pub mod Operations
pub mod Performs
pub mod Primitives
pub mod Runtime

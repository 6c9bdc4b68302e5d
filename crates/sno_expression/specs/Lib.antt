pub mod Forms
pub mod Evaluate
pub mod inner

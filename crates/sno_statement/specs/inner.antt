pub mod Begun
pub mod Calling
pub mod Given
pub mod Longer
pub mod Naming
pub mod Operands
pub mod StringNodes
pub mod Targets

pub mod Compared
pub mod Kinds
pub mod Lanes
pub mod Looks
pub mod Places
pub mod Present
pub mod Shape
pub mod Table

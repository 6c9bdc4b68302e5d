pub mod ByteOrder
pub mod Powers
pub mod TrailingSpaces
pub mod Copies
pub mod Replacements
pub mod Decimal
pub mod Texts
pub mod KeyLaws

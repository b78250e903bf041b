pub mod Translate
pub mod Refusals
pub mod Rows
pub mod Blocks
pub mod Result
pub mod Shape

pub mod Shape
pub mod Rowing
pub mod Blocks
pub mod Ending
pub mod Insides
pub mod Nested
pub mod Whole

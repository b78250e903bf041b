pub mod Pieces
pub mod Statements
pub mod Draft
pub mod Meets
pub mod Drafting
pub mod Jumps
pub mod Sought
pub mod Passed

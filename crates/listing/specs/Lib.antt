pub mod Listing
pub mod Outcome
pub mod Answers
pub mod LineLaws
pub mod ReadBack
pub mod Sizes
pub mod Theorems
pub mod Rows

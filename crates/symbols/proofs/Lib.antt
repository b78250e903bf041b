pub mod Spelling
pub mod Seeing
pub mod Search
pub mod Adding

pub mod Symbols
pub mod Table
pub mod ByNumbers
pub mod Steps
pub mod Chains
pub mod Kept

pub mod Gets
pub mod Depth
pub mod Names
pub mod Refusals

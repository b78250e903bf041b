pub mod Handing
pub mod Leaving
pub mod Drafting
pub mod Compiling
pub mod Walking

pub mod Reader
pub mod Grammar
pub mod Source
pub mod Gets
pub mod Depth
pub mod Rows

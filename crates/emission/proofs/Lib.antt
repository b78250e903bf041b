pub mod Lists
pub mod Places
pub mod Lookup
pub mod Exps
pub mod Sought
pub mod Stmts
pub mod Flow

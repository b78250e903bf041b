pub mod Runs
pub mod Literals
pub mod Tables
pub mod Cases

pub mod Compile
pub mod Outcomes
pub mod Computing
pub mod Sheets
pub mod OutcomeRows
pub mod Examples
pub mod Accepted

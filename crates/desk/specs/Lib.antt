pub mod Page
pub mod Table
pub mod Listing
pub mod Words
pub mod Entries

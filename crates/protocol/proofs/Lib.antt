pub mod Hex
pub mod Listing
pub mod Making
pub mod Spelling
pub mod Words
pub mod Written

pub mod Comparing
pub mod Keeping
pub mod Marking
pub mod Skipping

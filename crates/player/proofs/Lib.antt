pub mod Fetching
pub mod Laid
pub mod TakenLines

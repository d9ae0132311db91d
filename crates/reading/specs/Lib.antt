pub mod Reading
pub mod SameReadings

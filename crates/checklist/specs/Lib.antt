pub mod Readings
pub mod Lines
pub mod Pulls
pub mod Both

pub mod Crossing
pub mod Fronts
pub mod Setpoints
pub mod Starts
pub mod Pulling
pub mod Reading

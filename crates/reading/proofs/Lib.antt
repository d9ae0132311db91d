pub mod Runs
pub mod Fronts
pub mod Facts
pub mod Traces
pub mod Shown
pub mod Alike
pub mod Roomless

pub mod Making
pub mod Turns

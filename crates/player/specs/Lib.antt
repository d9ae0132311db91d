pub mod Predicates
pub mod Lines
pub mod Untouched
pub mod Rooms
pub mod Plays
pub mod Aside
pub mod Turns

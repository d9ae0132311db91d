pub mod Runs
pub mod Rooms
pub mod Scans
pub mod Laws

pub mod View
pub mod Calls
pub mod Tests
pub mod Held

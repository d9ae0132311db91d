pub mod Rings
pub mod Filling
pub mod Taking

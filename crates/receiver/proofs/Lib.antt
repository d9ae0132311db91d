pub mod Slots
pub mod Holding
pub mod Drawing
pub mod Taking

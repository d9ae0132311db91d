pub mod Decimal
pub mod Keys
pub mod KeysLaws

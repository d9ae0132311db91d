pub mod Chars
pub mod Ties
pub mod Known

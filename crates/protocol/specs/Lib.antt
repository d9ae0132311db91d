pub mod Digits
pub mod Values
pub mod Words
pub mod Forms
pub mod Names
pub mod Answers
pub mod Commands
pub mod Makes

pub mod Answers
pub mod Members
pub mod Words
pub mod Deeds
pub mod Headers
pub mod Lines

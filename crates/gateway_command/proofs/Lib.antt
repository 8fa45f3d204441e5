pub mod Complete
pub mod Inputs
pub mod Leaving
pub mod Reading
pub mod Texts

pub mod Inputs
pub mod Leaving
pub mod Complete

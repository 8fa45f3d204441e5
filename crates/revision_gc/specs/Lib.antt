pub mod Settings
pub mod Choices
pub mod Sweeps
pub mod Laws

pub mod Objects
pub mod Puts

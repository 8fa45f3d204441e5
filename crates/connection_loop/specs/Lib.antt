pub mod Lines
pub mod Sessions
pub mod Serves
pub mod Turns

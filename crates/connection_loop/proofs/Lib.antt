pub mod Sessions
pub mod Gates
pub mod Telling
pub mod Loops
pub mod Starts

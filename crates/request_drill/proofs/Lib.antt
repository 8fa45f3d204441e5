pub mod Adding
pub mod Running
pub mod Keeping
pub mod Lengths

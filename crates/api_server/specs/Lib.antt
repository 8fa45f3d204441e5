pub mod Calls
pub mod Ask

pub mod Generated
pub mod Streams
pub mod Runs
pub mod Tallies
pub mod Lines
pub mod Outputs

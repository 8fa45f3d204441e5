pub mod Faults
pub mod Paths
pub mod Queries
pub mod Route
pub mod Seen

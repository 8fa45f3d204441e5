pub mod Paths
pub mod Bodies

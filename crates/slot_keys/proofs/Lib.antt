pub mod Named
pub mod Keying
pub mod Swaps
pub mod Routing
pub mod Nexts
pub mod Least
pub mod Behind

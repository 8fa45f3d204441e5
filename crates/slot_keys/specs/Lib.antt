pub mod Nexts
pub mod Pins
pub mod Routed

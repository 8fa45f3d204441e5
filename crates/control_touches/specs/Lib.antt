pub mod Touches
pub mod Named

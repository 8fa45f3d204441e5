pub mod Names
pub mod Conditions
pub mod Plans
pub mod Views

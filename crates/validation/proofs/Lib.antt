pub mod Changes
pub mod Filled
pub mod Given
pub mod Steps
pub mod Lines

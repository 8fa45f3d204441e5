pub mod Texts
pub mod Defaults
pub mod Rules
pub mod Change

pub mod Members
pub mod Merge

pub mod Fold
pub mod Times

pub mod Fronts
pub mod Places
pub mod VersionLemmas
pub mod Labels

pub mod Children
pub mod Sights
pub mod Laws
pub mod Targets

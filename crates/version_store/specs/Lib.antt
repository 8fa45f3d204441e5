pub mod Laws
pub mod State
pub mod Journal
pub mod Apply
pub mod Cuts
pub mod Index

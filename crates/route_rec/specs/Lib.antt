pub mod Traffic
pub mod Pinning
pub mod Published
pub mod Spares
pub mod Laws

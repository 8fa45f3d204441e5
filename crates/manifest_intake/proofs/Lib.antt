pub mod Bodies
pub mod Soundness
pub mod Exact
pub mod Parts
pub mod Accepted
pub mod Exactly
pub mod Storing

pub mod StandsAs
pub mod Patchable
pub mod Asking
pub mod Made
pub mod Versioned

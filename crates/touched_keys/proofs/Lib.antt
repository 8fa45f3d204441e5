pub mod Before
pub mod Placed
pub mod Noted
pub mod Adding
pub mod Over
pub mod Reading
pub mod Covering
pub mod Taking

pub mod Options
pub mod Settings
pub mod Serving
pub mod Picking
pub mod Grammar
pub mod Apps
pub mod Stray

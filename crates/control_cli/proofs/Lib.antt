pub mod Replays
pub mod Leaves
pub mod Settings
pub mod Starts
pub mod Complete
pub mod Commands
pub mod Exporting

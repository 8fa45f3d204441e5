mod Readings
mod Compact
pub mod Bodies
mod Steps
mod Others
mod Named
mod Says
mod Asked
mod Entries
mod HeaderSays
pub mod Found
pub mod Feeds
pub mod Formed

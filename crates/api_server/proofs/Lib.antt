pub mod Replies
pub mod Unique
pub mod AsPut
pub mod Handles
pub mod Steps

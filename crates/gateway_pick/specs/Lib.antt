pub mod Reading
pub mod Rules
pub mod Tables
pub mod Polls
pub mod Picks
pub mod Gateway
pub mod Journals

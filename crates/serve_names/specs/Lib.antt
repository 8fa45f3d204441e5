pub mod Labels
pub mod Counts
pub mod Durations
pub mod Padding
pub mod Generated
pub mod Uids
pub mod Moments
pub mod Fields

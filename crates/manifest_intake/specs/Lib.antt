pub mod Bodies
pub mod Refusals
pub mod Intake
pub mod Seen
pub mod Good

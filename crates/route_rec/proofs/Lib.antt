pub mod Listed
pub mod Inserted
pub mod Outcomes
pub mod Unpinned
pub mod Spared
pub mod Wholes
pub mod RouteDue

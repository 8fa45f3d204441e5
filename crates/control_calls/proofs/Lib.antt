pub mod Leads
pub mod Events

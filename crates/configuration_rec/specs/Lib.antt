pub mod Laws
pub mod Revisions
pub mod Statuses

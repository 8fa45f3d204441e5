pub mod Lists
pub mod Exact
pub mod Latest
pub mod Ordered
pub mod Spaces

pub mod Copies
pub mod Counted
pub mod KeyOrder
pub mod Thing

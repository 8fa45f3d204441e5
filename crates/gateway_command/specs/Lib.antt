pub mod Lines
pub mod Reads
pub mod Texts
pub mod Leaves

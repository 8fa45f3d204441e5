pub mod Images
pub mod Firsts
pub mod Puts
pub mod Blank

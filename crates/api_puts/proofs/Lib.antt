pub mod ClientPuts
pub mod DuePuts

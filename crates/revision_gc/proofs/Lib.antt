pub mod SettingSteps
pub mod Picks
pub mod Firsts
pub mod Walks
pub mod Chosen
pub mod CollectorDue

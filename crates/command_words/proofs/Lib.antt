pub mod Given
pub mod OptionTexts
pub mod OptionRules
pub mod OptionWalk
pub mod OptionWords
pub mod PlaneOptions
pub mod Commands
pub mod Within

pub mod ServiceDue
pub mod ImageSteps
pub mod Conversions
pub mod Sentences

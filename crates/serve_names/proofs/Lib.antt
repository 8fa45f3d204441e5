pub mod PaddingLemmas
pub mod Digits
pub mod Days
pub mod DayLemmas
pub mod FieldLemmas
pub mod Runs
pub mod DurationLemmas
pub mod UidLemmas

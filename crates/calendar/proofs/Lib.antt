-- Laws of the calendar, which the proofs of this crate and of the crates above cite. Assumes nothing.
pub mod LeapLaws
pub mod TableLaws
pub mod MonthLaws
pub mod DayLaws
pub mod Conversions
pub mod DateOrder
pub mod Answers
pub mod ReadingLaws
pub mod WrittenDates
pub mod Samples
pub mod OneDecimal
pub mod OneText
pub mod DateValues
pub mod CellValues

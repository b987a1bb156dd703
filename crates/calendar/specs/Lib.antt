-- The calendar: days, dates, their order and their text; the values of cells. Assumes nothing.
pub mod Calendar
pub mod Order
pub mod DateText
pub mod CellValues
pub mod Found
pub mod Computing

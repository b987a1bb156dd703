-- Bytes, names, numbers, readers of bracket texts, and refusals. Assumes nothing.
pub mod Bytes
pub mod Names
pub mod Numbers
pub mod Reader
pub mod Words
pub mod Brackets
pub mod Amounts
pub mod Lines
pub mod Refusal
pub mod Offending
pub mod Ends
pub mod Walking
pub mod CodeEnds
pub mod Items
pub mod Reasons
pub mod Computing

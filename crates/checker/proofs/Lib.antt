-- Laws of the check, line after line. Assumes nothing.
pub mod Turns
pub mod RangeSamples
pub mod DateSamples

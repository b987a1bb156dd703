-- Laws of writing. Assumes nothing.
pub mod Writing
pub mod Digits

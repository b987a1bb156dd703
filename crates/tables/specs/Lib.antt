-- What the contracts of these lines say. Assumes nothing.
pub mod TableLine
pub mod Promises

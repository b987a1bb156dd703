-- What the contracts of these lines say. Assumes nothing.
pub mod CondLine
pub mod Promises

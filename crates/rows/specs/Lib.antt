-- What the contracts of these lines say. Assumes nothing.
pub mod RowWords
pub mod Promises

-- What the check of a document gives. Assumes nothing.
pub mod Loading
pub mod Promises

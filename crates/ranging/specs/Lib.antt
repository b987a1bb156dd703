-- What looking for ranges in named columns gives. Assumes nothing.
pub mod Promises

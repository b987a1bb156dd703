-- What asking a loaded document gives. Assumes nothing.
pub mod Outside
pub mod Cells
pub mod Holds
pub mod Promises

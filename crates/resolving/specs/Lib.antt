-- What resolving a query answers. Assumes nothing.
pub mod Resolved
pub mod Acting
pub mod Joins
pub mod Promises

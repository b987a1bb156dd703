-- What the code that finds the first grant answers. Assumes nothing.
pub mod Purposes
pub mod Authorities
pub mod Promises

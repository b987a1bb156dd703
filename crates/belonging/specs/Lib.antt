-- What the code that tells who belongs to a conditional role answers. Assumes nothing.
pub mod Values
pub mod Held
pub mod Promises

-- What asking a join gives from 15 on. Assumes nothing.
pub mod Refusing
pub mod Faults
pub mod Naming
pub mod Promises

-- Closed by what: what the code's answers stand for. Assumes nothing.
pub mod Explaining
pub mod Promises

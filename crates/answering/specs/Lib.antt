-- What answering over the rows gives. Assumes nothing.
pub mod Lines
pub mod Answering

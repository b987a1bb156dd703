-- What is told of a why line. Assumes nothing.
pub mod Telling
pub mod Holds

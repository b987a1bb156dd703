-- Laws of answering. Assumes nothing.
pub mod LineLaws
pub mod Ending
pub mod Bridge

-- What a document means with the row lines of a file behind it. Assumes nothing.
pub mod Appended
pub mod Computing

-- What is proved of a document with the row lines of a file behind it.
pub mod Fitting
pub mod RowLine
pub mod Appended
pub mod Imported
pub mod AppendedSample

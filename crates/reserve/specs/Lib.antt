-- What is summed of the rows that the workspace holds.
pub mod Sums

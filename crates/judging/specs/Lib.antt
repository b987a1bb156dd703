-- What reading the comparisons and judging the rows give. Assumes nothing.
pub mod Constants
pub mod Tests
pub mod Pairs
pub mod Reading
pub mod Marking
pub mod Prepared
pub mod Judging
pub mod Promises

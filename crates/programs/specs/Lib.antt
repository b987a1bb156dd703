-- What the programs share: the lines that they print, what reading and writing promise, and refusals of lines that were not kept whole. Assumes nothing.
pub mod Counts
pub mod Lines
pub mod Input
pub mod Kept

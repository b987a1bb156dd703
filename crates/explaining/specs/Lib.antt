-- The explaining program: what it promises of a line that was not kept whole. Assumes nothing.
pub mod Kept

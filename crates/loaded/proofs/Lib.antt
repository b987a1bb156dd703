-- Laws of asking a loaded document. Assumes nothing.
pub mod Chain
pub mod CellLaws

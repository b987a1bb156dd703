-- Laws of what the programs share: the lines that are printed. Assumes nothing.
pub mod LineLaws

-- Laws of these lines. Assumes nothing.
pub mod AttrFaults
pub mod CondLineLaws
pub mod CondLines

-- Laws of these lines. Assumes nothing.
pub mod NodeFaults

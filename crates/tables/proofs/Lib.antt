-- Laws of these lines. Assumes nothing.
pub mod LabelFaults
pub mod NameWalks
pub mod SetLaws
pub mod TableLineLaws
pub mod TableStored

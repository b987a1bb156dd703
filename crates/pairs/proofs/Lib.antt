-- Laws of asking twice. Assumes nothing.
pub mod BothLaws
pub mod BelowLaws

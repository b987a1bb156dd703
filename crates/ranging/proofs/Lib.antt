-- Laws of ranges in named columns. Assumes nothing.
pub mod RangedLaws
pub mod RangedRefs

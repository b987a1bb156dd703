-- Laws of the definitions, which the proofs cite. Assumes nothing.
pub mod CopyLaws
pub mod RowLaws
pub mod NameLaws
pub mod RoomLaws
pub mod ImportLaws
pub mod Measuring
pub mod ReadBack
pub mod Samples

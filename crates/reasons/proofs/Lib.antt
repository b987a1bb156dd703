-- Laws of explaining a cell. Assumes nothing.
pub mod NearLaws
pub mod LabelLaws
pub mod RowLaws
pub mod CellLaws
pub mod ExplainLaws

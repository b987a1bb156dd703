-- Laws of labels, tables, what later lines say of them, and rows in the workspace. Assumes nothing.
pub mod LabelLaws
pub mod NoteLaws
pub mod RowLaws
pub mod TableLaws

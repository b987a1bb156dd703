-- Laws of the definitions, which the proofs cite. Assumes nothing.
pub mod FieldLaws
pub mod ShortValues
pub mod RecordLaws
pub mod ScanLaws
pub mod Rendered
pub mod WrittenSo

-- Laws of looking up and storing, which the proofs of the crates above cite. Assumes nothing.
pub mod TabulatedLaws
pub mod SameLaws
pub mod FoundLaws
pub mod Finding
pub mod HashLaws
pub mod MetLaws
pub mod Stores
pub mod CellLaws

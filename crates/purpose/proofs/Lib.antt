-- Laws that the proofs of this crate and of its callers cite.
pub mod Lists
pub mod Bits
pub mod Words
pub mod Ancestry
pub mod Compliance
pub mod Growing
pub mod Closures
pub mod Building
pub mod Examples
pub mod Nesting
pub mod NestExamples

-- Comma-separated files: their fields and records. Assumes nothing.
pub mod Fields
pub mod Records
pub mod Scanned
pub mod Rendered
pub mod Computing

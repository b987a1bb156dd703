-- Comma-separated files, and the row lines that are made of them. Assumes nothing.
pub mod Importing
pub mod Outside
pub mod Placement
pub mod ReadBack
pub mod Computing

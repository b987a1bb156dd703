-- How the workspace holds labels, tables, what later lines say of them, and rows.
pub mod Labels
pub mod Notes
pub mod Rows
pub mod Tables

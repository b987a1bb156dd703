-- How the workspace holds the whole document.
pub mod Workspace

-- How the workspace holds purposes, roles, attributes, users, conditional roles and grants.
pub mod Attributes
pub mod CondRoles
pub mod Grants
pub mod Nodes
pub mod Users
pub mod Promises

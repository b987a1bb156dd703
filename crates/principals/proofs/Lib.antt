-- Laws of purposes, roles, attributes, users, conditional roles and grants in the workspace. Assumes nothing.
pub mod NodeLaws
pub mod AttributeLaws
pub mod CondRoleLaws
pub mod IndexLaws
pub mod GrantLaws
pub mod UserLaws

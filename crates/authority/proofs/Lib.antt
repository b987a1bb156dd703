-- Laws of authority. Assumes nothing.
pub mod PurposeLaws
pub mod GrantingLaws
pub mod ActingLaws

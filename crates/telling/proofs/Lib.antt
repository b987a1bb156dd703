-- Laws of writing a reason. Assumes nothing.
pub mod TellLaws
pub mod BriefForms
pub mod Short
pub mod TextLaws
pub mod HeldLaws

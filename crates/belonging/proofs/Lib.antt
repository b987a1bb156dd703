-- Laws of belonging to a conditional role. Assumes nothing.
pub mod LineLaws
pub mod ValueLaws
pub mod HeldLaws

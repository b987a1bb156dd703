-- The root of the laws.
pub mod BuildLaws
pub mod ProgramLaws
pub mod RunLaws
pub mod Samples
pub mod StepLaws

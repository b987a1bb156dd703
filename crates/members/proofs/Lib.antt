-- Laws of these lines. Assumes nothing.
pub mod GivenLaws
pub mod GrantFaults
pub mod UserFaults

-- Laws of asking a join. Assumes nothing.
pub mod Steps
pub mod NamingLaws
pub mod FaultLaws

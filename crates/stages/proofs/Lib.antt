-- Laws of asking over an accepted document. Assumes nothing.
pub mod Chain
pub mod Preparing
pub mod Parties

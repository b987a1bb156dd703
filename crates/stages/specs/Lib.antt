-- What asking over an accepted document gives, refusal by refusal. Assumes nothing.
pub mod Figures
pub mod Tails
pub mod Stages

-- What the contracts of these lines say. Assumes nothing.
pub mod Follows
pub mod Judged
pub mod Places
pub mod Stored

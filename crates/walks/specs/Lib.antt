-- What the contracts of these lines say. Assumes nothing.
pub mod PurposeLine
pub mod Taken
pub mod Walked
pub mod Promises

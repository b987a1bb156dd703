-- What asking twice gives. Assumes nothing.
pub mod Both
pub mod Below

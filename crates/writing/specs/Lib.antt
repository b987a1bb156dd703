-- What writing into a lent buffer gives. Assumes nothing.
pub mod Write

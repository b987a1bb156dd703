-- Laws of the explaining program: how long a right line is, and that what is kept of a line decides. Assumes nothing.
pub mod NumberLength
pub mod WhyLength
pub mod KeptLaws

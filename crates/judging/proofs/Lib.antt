-- Laws of reading the comparisons and of judging the rows. Assumes nothing.
pub mod ValueLaws
pub mod OpenCells
pub mod DateLaws
pub mod ConstantLaws
pub mod TestLaws
pub mod PairLaws
pub mod TypeLaws
pub mod MatchLaws
pub mod QueryTests
pub mod FateLaws

-- Laws of these lines. Assumes nothing.
pub mod CellTurns
pub mod PurposeLines
pub mod RowLines
pub mod RowsTaken
pub mod Typed
pub mod ValueTurns

-- Laws of these lines. Assumes nothing.
pub mod RowAccepted
pub mod RowChecks
pub mod RowItems
pub mod RowJudging
pub mod RowStored
pub mod RowTurns
pub mod RowTypes
pub mod StoredItems

-- Laws of these lines. Assumes nothing.
pub mod ColumnLaws
pub mod FoundLaws
pub mod Growing
pub mod Judgements
pub mod Judging
pub mod NamedLaws
pub mod NearLaws
pub mod Outcomes
pub mod PassLaws
pub mod PlaceLaws
pub mod LabelPlaces

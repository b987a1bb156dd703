-- Laws of the sums of a table's rows.
pub mod SumLaws

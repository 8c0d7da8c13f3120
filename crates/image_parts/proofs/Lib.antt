pub mod RunLaws
pub mod RecordMeanings
pub mod RowLaws

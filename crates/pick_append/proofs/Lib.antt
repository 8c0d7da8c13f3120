pub mod AppendLaws
pub mod RowLaws

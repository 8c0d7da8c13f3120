pub mod RowEdits
pub mod PassLaws

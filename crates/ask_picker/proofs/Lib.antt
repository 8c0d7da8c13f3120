pub mod AskedLaws
pub mod RecordRows
pub mod TableParts

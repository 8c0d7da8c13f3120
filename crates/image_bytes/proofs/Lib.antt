pub mod PutLaws
pub mod FieldLaws

pub mod PartLaws
pub mod ValidLaws
pub mod NumberLaws

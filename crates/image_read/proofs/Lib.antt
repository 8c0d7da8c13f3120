pub mod ReadLaws
pub mod PackLaws

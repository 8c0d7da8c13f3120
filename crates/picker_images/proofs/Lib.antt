pub mod MakingLaws
pub mod ReadingLaws
pub mod TakingLaws

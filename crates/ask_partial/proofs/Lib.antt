pub mod FlagLaws
pub mod InfoLaws

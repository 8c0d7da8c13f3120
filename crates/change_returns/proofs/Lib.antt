pub mod WholeLaws
pub mod FlagLaws

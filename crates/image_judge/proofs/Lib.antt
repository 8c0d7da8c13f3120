pub mod FrontLaws
pub mod WholeLaws

pub mod UsedLaws
pub mod PhaseLaws

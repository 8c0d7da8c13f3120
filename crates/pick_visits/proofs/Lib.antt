pub mod StepLaws
pub mod VisitLaws
pub mod ListLaws

pub mod StepLaws
pub mod OpenLaws
pub mod MarkLaws

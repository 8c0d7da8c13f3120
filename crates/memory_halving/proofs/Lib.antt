pub mod RowLaws
pub mod HalvesLaws
pub mod StepLaws

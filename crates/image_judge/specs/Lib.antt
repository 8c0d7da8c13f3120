pub mod Fronts
pub mod Verdicts

pub mod FrontLaws
pub mod StepLaws
pub mod TraceLaws
pub mod CodeTerm3Holds

pub mod StepLaws
pub mod StateLaws

pub mod PlaceLaws
pub mod LowLaws
pub mod Cases

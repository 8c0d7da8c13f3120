pub mod WholeLaws
pub mod LengthLaws

pub mod WholeLaws
pub mod AcceptedLaws

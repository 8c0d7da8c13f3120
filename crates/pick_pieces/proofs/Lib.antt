pub mod WholeLaws
pub mod GaveLaws

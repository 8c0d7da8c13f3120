pub mod LeastLaws
pub mod FillLaws

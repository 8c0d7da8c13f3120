pub mod BlockLaws
pub mod PassLaws
pub mod QuadLaws

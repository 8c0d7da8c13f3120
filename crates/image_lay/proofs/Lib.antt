pub mod LaidLaws
pub mod QuadLaws

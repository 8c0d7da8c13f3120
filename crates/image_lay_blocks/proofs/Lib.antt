pub mod QuadLaws

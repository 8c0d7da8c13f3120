pub mod WalkLaws
pub mod HeapLaws
pub mod PhaseLaws

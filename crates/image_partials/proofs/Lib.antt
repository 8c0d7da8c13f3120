pub mod PartialLaws
pub mod WalkLaws

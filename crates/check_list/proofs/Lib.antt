pub mod ListTests
pub mod WalkLaws

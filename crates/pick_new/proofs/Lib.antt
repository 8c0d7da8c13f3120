pub mod BlockLaws
pub mod RunLaws
pub mod InLaws
pub mod NewLaws

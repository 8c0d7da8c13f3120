pub mod ByteLaws
pub mod RunLaws
pub mod Answers
pub mod Meaning
pub mod WriteCases

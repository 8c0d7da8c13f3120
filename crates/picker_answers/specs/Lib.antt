pub mod Admitting
pub mod Answers

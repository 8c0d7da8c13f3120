pub mod Lending
pub mod Answers

pub mod Steps
pub mod Saying

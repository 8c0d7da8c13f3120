pub mod Answers
pub mod Back
pub mod Changes
pub mod Picks
pub mod Records
pub mod Refusals
pub mod Replies

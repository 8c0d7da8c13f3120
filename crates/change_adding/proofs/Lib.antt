pub mod FreshTallies
pub mod AddLaws

pub mod Steps
pub mod Visits
pub mod Walks

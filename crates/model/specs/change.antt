pub mod Partials
pub mod Changes

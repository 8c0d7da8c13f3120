pub mod Blocks
pub mod Partials

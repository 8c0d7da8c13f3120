pub mod Draws
pub mod Moving

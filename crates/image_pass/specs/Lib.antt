pub mod Blocks
pub mod Quads

pub mod Blocks
pub mod Pick

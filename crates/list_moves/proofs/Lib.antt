pub mod Carrying
pub mod Pulling

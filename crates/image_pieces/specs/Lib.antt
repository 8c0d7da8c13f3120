pub mod Places
pub mod Heads
pub mod Pieces
pub mod Stretches

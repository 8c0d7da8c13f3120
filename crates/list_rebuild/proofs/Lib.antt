pub mod Shuffling
pub mod Commuting
pub mod Building

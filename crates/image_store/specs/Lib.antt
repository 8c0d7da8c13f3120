pub mod Given
pub mod Ranks
pub mod Storing
pub mod Stored

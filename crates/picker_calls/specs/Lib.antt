pub mod Calling
pub mod Starting
pub mod Outcomes
pub mod Judges
pub mod Cores

pub mod Groups
pub mod Adding
pub mod Fronts
pub mod Changing

pub mod Regions
pub mod Moving

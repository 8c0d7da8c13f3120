pub mod Opening
pub mod Marking

pub mod Flags
pub mod Info

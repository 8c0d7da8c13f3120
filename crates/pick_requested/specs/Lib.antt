pub mod Requested
pub mod Known

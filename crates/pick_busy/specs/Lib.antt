pub mod Busy
pub mod Full

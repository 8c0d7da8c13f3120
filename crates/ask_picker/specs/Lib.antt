pub mod Telling
pub mod Asked

pub mod BlockTable
pub mod BlockCores
pub mod MarkTable
pub mod Values

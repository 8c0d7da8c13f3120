pub mod States
pub mod Records

pub mod Tallied
pub mod RowsStanding

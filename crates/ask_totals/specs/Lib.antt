pub mod Marks
pub mod Totals

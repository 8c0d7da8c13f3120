pub mod CellRanks

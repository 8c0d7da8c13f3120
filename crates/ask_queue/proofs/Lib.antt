pub mod InfoRecords

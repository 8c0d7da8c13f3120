pub mod RecordLaws
pub mod BlockRecords
pub mod Following

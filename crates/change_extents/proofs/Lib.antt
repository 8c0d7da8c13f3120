pub mod NeighbourLaws
pub mod RecordLaws

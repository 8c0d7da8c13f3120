pub mod PlaceLaws
pub mod OrderLaws
pub mod FoundLaws
pub mod KeyLaws

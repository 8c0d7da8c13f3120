pub mod FrontLaws
pub mod NumberKinds
pub mod RecordLaws
pub mod FoundLaws

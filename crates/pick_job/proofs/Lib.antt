pub mod PickLaws
pub mod FoundLaws
pub mod StoredLaws

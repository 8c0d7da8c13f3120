pub mod RoundLaws
pub mod FreeLaws
pub mod AddingLaws
pub mod PartialLaws

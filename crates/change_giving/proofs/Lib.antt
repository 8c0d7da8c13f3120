pub mod FreeLaws
pub mod GivingLaws

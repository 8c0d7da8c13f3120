pub mod ExtentLaws
pub mod PlaceLaws
pub mod OrderLaws

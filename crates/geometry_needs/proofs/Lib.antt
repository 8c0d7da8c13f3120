pub mod ExtentLaws
pub mod NeedLaws
pub mod ImageLength
pub mod ImageBound

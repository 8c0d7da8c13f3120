pub mod HeadLaws
pub mod ExtentLaws

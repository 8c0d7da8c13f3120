pub mod ExtentLaws
pub mod MoveLaws

pub mod Fields
pub mod HeadLaws
pub mod ExtentLaws
pub mod ByNumber
pub mod Beside

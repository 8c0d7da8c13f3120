pub mod OrderLaws
pub mod SiftLaws
pub mod TopLaws

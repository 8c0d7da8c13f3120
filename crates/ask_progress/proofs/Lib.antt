pub mod ClassLaws
pub mod SizeLaws

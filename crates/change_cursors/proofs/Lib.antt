pub mod CursorLaws
pub mod ScanLaws
pub mod MoveLaws

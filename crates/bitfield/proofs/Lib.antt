pub mod ScanLaws
pub mod Meaning
pub mod BitCases

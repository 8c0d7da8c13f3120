pub mod ListLaws
pub mod BusyLaws
pub mod FullLaws

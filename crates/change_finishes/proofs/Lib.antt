pub mod DoneLaws
pub mod FinishLaws

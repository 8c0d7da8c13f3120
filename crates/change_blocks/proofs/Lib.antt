pub mod TallyLaws
pub mod SetLaws
pub mod StandingLaws

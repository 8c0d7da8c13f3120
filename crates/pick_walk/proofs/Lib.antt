pub mod TurnLaws
pub mod TellLaws
pub mod SkipLaws

pub mod TurnedLaws
pub mod RequestLaws

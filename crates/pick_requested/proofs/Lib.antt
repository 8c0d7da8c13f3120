pub mod RequestedLaws
pub mod KnownLaws

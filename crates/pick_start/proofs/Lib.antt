pub mod ForcedLaws
pub mod StartLaws
pub mod RequestLaws

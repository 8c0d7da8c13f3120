pub mod CasesHold
pub mod Term3Holds
pub mod given
pub mod complete
pub mod CompleteHolds

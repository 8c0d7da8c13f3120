pub mod Requests
pub mod PickStates
pub mod Room

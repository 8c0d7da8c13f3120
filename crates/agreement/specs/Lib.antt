pub mod Cases
pub mod SoundPick
pub mod Term3
pub mod Complete

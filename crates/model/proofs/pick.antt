pub mod ScanLaws
pub mod FoundLaws
pub mod FrameLaws
pub mod PhaseLaws
pub mod PickerLaws
pub mod SoundPick
pub mod WalkedLaws

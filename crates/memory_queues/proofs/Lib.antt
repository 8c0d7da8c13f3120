pub mod PlaceLaws
pub mod EnterLaws
pub mod StandLaws
pub mod FilledLaws
pub mod GoodLaws

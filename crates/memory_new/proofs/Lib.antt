pub mod FillLaws
pub mod FreshLaws

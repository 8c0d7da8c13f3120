pub mod FreshLaws
pub mod OpenLaws
pub mod AddLaws

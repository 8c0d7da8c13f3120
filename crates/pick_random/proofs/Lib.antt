pub mod RingRest
pub mod DrawLaws

pub mod FoundLaws
pub mod HeldLaws
pub mod StoreLaws
pub mod PartLaws
pub mod TailLaws
pub mod RankLaws
pub mod StandLaws

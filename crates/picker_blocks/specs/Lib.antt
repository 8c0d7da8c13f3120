pub mod Arguments
pub mod BlockJudges
pub mod MarkJudges

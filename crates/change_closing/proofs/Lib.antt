pub mod ErasingLaws
pub mod FlushLaws

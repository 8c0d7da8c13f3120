pub mod MarkLaws
pub mod VisitLaws
pub mod PieceLaws
pub mod LapLaws

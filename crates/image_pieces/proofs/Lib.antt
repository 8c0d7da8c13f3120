pub mod NextLaws
pub mod HeadLaws
pub mod PieceLaws
pub mod StretchLaws
pub mod PassLaws
pub mod PassedOn

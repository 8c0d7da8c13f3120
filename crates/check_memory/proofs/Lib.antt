pub mod LengthLaws
pub mod RowLaws
pub mod VerdictLaws
pub mod Standing
pub mod Passing

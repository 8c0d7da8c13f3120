pub mod HeadLaws
pub mod Tails
pub mod ExtentTests
pub mod Joins
pub mod RowLaws
pub mod Passes
pub mod PadLaws
pub mod PieceTests

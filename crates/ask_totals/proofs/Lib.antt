pub mod MarkLaws
pub mod CountLaws
pub mod TotalLaws

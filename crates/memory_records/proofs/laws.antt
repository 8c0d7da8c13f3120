pub mod SearchLaws
pub mod LiveLaws
pub mod EditLaws
pub mod RowLaws
pub mod RisingLaws

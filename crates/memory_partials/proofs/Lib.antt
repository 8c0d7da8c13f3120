pub mod RecordLaws
pub mod CountLaws
pub mod RisingLaws
pub mod MarkLaws
pub mod CloseLaws
pub mod FlagLaws
pub mod Cases

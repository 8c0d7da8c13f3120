pub mod RisingLaws
pub mod LookupLaws

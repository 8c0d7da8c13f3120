pub mod LookupLaws
pub mod RoomLaws
pub mod OpenedLaws
pub mod VacantLaws

pub mod TableLaws
pub mod RoomLaws
pub mod ListLaws

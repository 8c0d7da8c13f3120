pub mod WorkLaws
pub mod MendLaws
pub mod FieldLaws
pub mod BesideLaws
pub mod FieldMends
pub mod RoomLaws

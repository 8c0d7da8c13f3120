pub mod BelowLaws
pub mod JoinLaws
pub mod CountLaws

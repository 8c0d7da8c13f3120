pub mod TakeLaws
pub mod DidLaws
pub mod RestLaws
pub mod RangeLaws
pub mod RoomLaws
pub mod LeastLaws

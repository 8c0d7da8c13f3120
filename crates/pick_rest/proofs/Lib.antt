pub mod GameLaws
pub mod PlayLaws
pub mod RestLaws

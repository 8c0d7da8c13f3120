pub mod ReplyLaws
pub mod PieceLaws

pub mod StateLaws
pub mod QueueLaws
pub mod MoveLaws
pub mod KeptLaws

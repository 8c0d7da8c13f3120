pub mod Picking
pub mod Spans

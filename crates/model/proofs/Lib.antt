pub mod cases
pub mod base
pub mod list
pub mod sound
pub mod keep
pub mod pick
pub mod image

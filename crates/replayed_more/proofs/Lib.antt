pub mod Steps1
pub mod Steps2
pub mod Steps3
pub mod Steps4
pub mod Steps5
pub mod Steps6

pub mod Stable
pub mod Tabling
pub mod Placing

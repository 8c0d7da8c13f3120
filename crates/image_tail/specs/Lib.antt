pub mod Extents
pub mod Order

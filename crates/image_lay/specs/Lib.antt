pub mod Laid
pub mod Quads

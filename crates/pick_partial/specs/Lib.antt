pub mod Free
pub mod Adding

pub mod Order
pub mod Listed

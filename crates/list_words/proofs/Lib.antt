pub mod Natural
pub mod Mending
pub mod Arms
pub mod Listing
pub mod Writing

pub mod Rooms
pub mod Listing

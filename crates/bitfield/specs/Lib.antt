pub mod Bitfield

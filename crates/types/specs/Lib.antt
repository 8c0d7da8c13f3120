pub mod Numbers
pub mod Piece
pub mod Queue
pub mod Block
pub mod Bits
pub mod Refusal
pub mod Peer

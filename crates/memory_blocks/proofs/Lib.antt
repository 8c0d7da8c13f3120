pub mod BlockLaws
pub mod PeerLaws

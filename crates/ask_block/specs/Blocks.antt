-- The block that is asked about, and the answers of its questions. Assumes nothing.
use Rattle.std.specs.Prelude.{ℕ, ◌≡◌, [], ◌∷◌, None, Option as Optional, Some}
use Rattle.memory_blocks.specs.declared.info.BlockInfo.{BlockInfo}
use Rattle.std.proofs.Math.Option.{Option, none, some}
use Rattle.types.specs.Block.{block_state_number}
use Rattle.model.specs.State.{Block}
use Rattle.model.specs.ask.Questions.{Reply, numbers, nothing, one}
use Rattle.memory_blocks.specs.Blocks.{block_of}
use Rattle.ask_block.specs.declared.peers.PeerOf.{PeerOf}
use Rattle.ask_block.specs.declared.peers.PeerOf.TheVariants.{Peer, NoPeer, Nothing as NothingThere}

-- the answer is the block that was looked for, with its state's number; or there is none
abbrev pub BlockTold : (found : Option Block) (r : Optional BlockInfo) → Type 0
BlockTold found (Some x) = (found ≡ some (block_of x)) × (x.state ≡ block_state_number (block_of x).state)
BlockTold found None = found ≡ none

-- ---- document 01's answer of each case
unfoldable pub number_reply : (r : Optional ℕ) → Reply
number_reply (Some n) = one n
number_reply None = nothing

-- a peer, or none; or no partial stands
unfoldable pub peer_reply : (r : PeerOf) → Reply
peer_reply (Peer p) = numbers (some p ∷ [])
peer_reply NoPeer = numbers (none ∷ [])
peer_reply NothingThere = nothing

-- the peer of a block, as an answer
unfoldable pub peer_found : (peer : Option ℕ) → PeerOf
peer_found none = NoPeer
peer_found (some p) = Peer p

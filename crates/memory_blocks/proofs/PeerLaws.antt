-- Peers told apart by flag and number, and the block with a requester less. Assumes nothing.
use mathlib.Core.Path.{◌≡◌, refl, ap, ◌∙◌}
use mathlib.Core.Bool.{Bool, true, false, cond, not, ◌&&◌, ◌||◌}
use mathlib.Core.Option.{Option, none}
use Prim.Native.Nat.{ℕ, ◌-◌}
use lib.Dec.{eqb}
use Rattle.types.specs.declared.block.BlockState.TheVariants.{Requested}
use Rattle.types.specs.Peer.{named_peer}
use Rattle.model.specs.Lists.{nth}
use Rattle.model.specs.State.{same_peer}
use Rattle.model.specs.change.Changes.{released}
use Rattle.memory_layout.specs.Decode.{state_from}
use Rattle.memory_blocks.specs.declared.info.BlockInfo.{BlockInfo}
use Rattle.memory_blocks.specs.Blocks.{block_of}

pub same_named : (has : Bool) (peer : ℕ) (has' : Bool) (other : ℕ)
    → ((not has && not has') || ((has && has') && eqb peer other)) ≡ same_peer (named_peer has peer) (named_peer has' other)
unfolding same_peer
same_named true peer true other = refl
same_named true peer false other = refl
same_named false peer true other = refl
same_named false peer false other = refl

-- the block's peer is the one that its numbers name
pub same_is : (b : BlockInfo) (has : Bool) (peer : ℕ)
    → same_peer (named_peer b.has_peer b.peer) (named_peer has peer) ≡ same_peer (block_of b).peer (named_peer has peer)
unfolding block_of
same_is b has peer = refl

-- the peer unless it is forgotten
forgotten : (has same : Bool) (peer : ℕ) → named_peer (has && not same) peer ≡ cond same none (named_peer has peer)
forgotten true true peer = refl
forgotten true false peer = refl
forgotten false true peer = refl
forgotten false false peer = refl

pub release_is : (b : BlockInfo) (has : Bool) (peer : ℕ) (same : Bool)
    → same ≡ same_peer (named_peer b.has_peer b.peer) (named_peer has peer)
    → block_of (record { state = 1; num_peers = b.num_peers - 1; has_peer = b.has_peer && not same; peer = b.peer })
    ≡ released (named_peer has peer) (block_of b)
unfolding block_of released state_from nth
release_is b has peer same e =
    ap (λ (o : Option ℕ). record { state = Requested; num_peers = b.num_peers - 1; peer = o })
    (forgotten b.has_peer same b.peer ∙ ap (λ (c : Bool). cond c none (named_peer b.has_peer b.peer)) e)

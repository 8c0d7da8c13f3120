-- The blocks of a partial as they were read. Assumes nothing.
use Rattle.std.specs.Prelude.{ℕ, zero, suc, ◌+◌, ◌-◌, ◌*◌, ◌≤◌, ◌≡◌, Bool, cond, ◌&&◌, List, [], length, drop, eqb, leb, None, Option, Some}
use Rattle.types.specs.declared.block.BlockState.{BlockState}
use Rattle.types.specs.declared.block.BlockState.TheVariants.{None, Requested}
use Rattle.model.specs.Lists.{len, count}
use Rattle.model.specs.State.{Block, same_block_state, max_peers}
use Rattle.model.specs.image.Image.{block_kind, last_block_state, Got, got, fault, get_blocks}
use Rattle.image_pieces.specs.Places.{Failed}
use Rattle.image_pass.specs.declared.tally.Tally.{Tally}

-- blocks in one state
unfoldable pub in_state : (k : BlockState) (bs : List Block) → ℕ
in_state k bs = count (λ b. same_block_state b.state k) bs

-- these blocks are counted
pub record Tallied (t : Tally) (bs : List Block) : Type 0 where
  pub free : t.free ≡ in_state None bs
  pub requested : t.requested ≡ in_state Requested bs

-- blocks were read one by one up to `at`, and n are left: behind the last one all of them are judged, and it is the one at fault
unfoldable pub left_blocks : (fits : List Block → Bool) (before : List Block) (n at : ℕ) (bytes : List ℕ) → Got (List Block)
left_blocks fits before zero at bytes = cond (fits before) (got before (drop at bytes)) (fault (drop (at - 13) bytes))
left_blocks fits before (suc n) at bytes = get_blocks fits before (suc n) (drop at bytes)

-- all of them stand there
pub record BlocksStand (start many : ℕ) (bytes : List ℕ) (t : Tally) : Type 0 where
  pub blocks : List Block
  pub long : len blocks ≡ many
  pub tallied : Tallied t blocks
  pub room : start + 13 * many ≤ length bytes
  pub is : (fits : List Block → Bool) → get_blocks fits [] many (drop start bytes) ≡ left_blocks fits blocks 0 (start + 13 * many) bytes

-- or one is at fault, whatever they are to fit
abbrev pub BlockFails : (start many : ℕ) (bytes : List ℕ) (k : ℕ) → Type 0
BlockFails start many bytes k = (fits : List Block → Bool) → Failed (get_blocks fits [] many (drop start bytes)) bytes k

-- ---- a pass that only tells whether all of them are well
-- a block's numbers but for its peer
unfoldable pub in_range : (kind state num_peers has : ℕ) → Bool
in_range kind state num_peers has = eqb kind block_kind && (leb state last_block_state && (leb has 1 && leb num_peers max_peers))

unfoldable pub BlocksWell : (start many : ℕ) (bytes : List ℕ) (r : Option Tally) → Type 0
BlocksWell start many bytes (Some t) = BlocksStand start many bytes t
BlocksWell start many bytes None = Unit

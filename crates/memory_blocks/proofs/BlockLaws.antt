-- The numbers of a block: what they are in the picker, and what their stores make of it. Assumes nothing.
use mathlib.Core.Path.{◌≡◌, refl, sym, ap, subst, ◌∙◌}
use mathlib.Core.Bool.{Bool, true, false, cond}
use mathlib.Core.Option.{none, some}
use mathlib.Core.List.{List}
use Prim.Native.Nat.{ℕ, ◌≤◌, ◌<◌}
use native.Mathlib.Omega.{arith}
use lib.ListN.{set}
use Rattle.types.specs.Block.{block_state_number}
use Rattle.model.specs.Lists.{bit}
use Rattle.model.specs.State.{Block}
use Rattle.model.specs.change.Partials.{block_at}
use Rattle.memory_layout.specs.declared.shape.Shape.{Shape}
use Rattle.memory_layout.specs.Tables.{choose}
use Rattle.memory_layout.specs.Offsets.{peer_at, block_cell_at}
use Rattle.memory_layout.specs.Decode.{peer_word, block_cell, state_from, yes?, peer_from, block_from, block_held, decode}
use Rattle.memory_layout.specs.Changes.{partial_in, with_partial, with_block}
use Rattle.memory_layout.specs.Bounds.{Spans, CellsSpan}
use Rattle.memory_layout.specs.Stores.{Became}
use Rattle.memory_layout.specs.Frames.{BlockPut}
use Rattle.memory_layout.proofs.Numbers.{number_state}
use Rattle.memory_layout.proofs.Meanings.{block_is}
use Rattle.memory_layout.proofs.stores.BlockStores.{block_none, block_cell_put, block_put, put_is, block_became}
use Rattle.memory_layout.proofs.stores.BlockStores.{block_elsewhere}
use Rattle.memory_layout.proofs.stores.ListFrames.{block_list_kept}
use Rattle.memory_blocks.specs.declared.info.BlockInfo.{BlockInfo}
use Rattle.memory_blocks.specs.Blocks.{block_of, BlockIs, BlockRead, BlockStored, BlockFresh}

-- ---- reading
module _ (s : Shape) (words cells : List ℕ) (p j : ℕ) (x : BlockInfo) where
  held : (a c : ℕ) → x.state ≡ block_state_number (state_from a) → a ≡ block_cell cells s.pieces s.blocks 0 p j
      → x.num_peers ≡ block_cell cells s.pieces s.blocks 1 p j
      → x.has_peer ≡ yes? c → c ≡ block_cell cells s.pieces s.blocks 2 p j
      → x.peer ≡ peer_word words s.pieces s.blocks p j
      → BlockIs x (block_held words cells s.pieces s.blocks p j)
  unfolding block_of block_held block_from peer_from
  held a c ea wa eb ec wc ed = record {
    is = λ i. record {
      state = (ap state_from ea ∙ number_state (state_from a) ∙ ap state_from wa) i;
      num_peers = eb i;
      peer = cond ((ec ∙ ap yes? wc) i) (some (ed i)) none;
    };
    state = ea ∙ ap (λ (w : ℕ). block_state_number (state_from w)) wa;
  }

  is_held : (y : Block) → block_held words cells s.pieces s.blocks p j ≡ y
      → BlockIs x (block_held words cells s.pieces s.blocks p j) → BlockIs x y
  is_held y e b = record { is = b.is ∙ e; state = b.state ∙ ap (λ (z : Block). block_state_number z.state) e }

  -- the four numbers at the place
  pub block_read_lem : (a c : ℕ) → x.state ≡ block_state_number (state_from a) → a ≡ block_cell cells s.pieces s.blocks 0 p j
      → x.num_peers ≡ block_cell cells s.pieces s.blocks 1 p j
      → x.has_peer ≡ yes? c → c ≡ block_cell cells s.pieces s.blocks 2 p j
      → x.peer ≡ peer_word words s.pieces s.blocks p j
      → BlockRead s words cells p j x
  block_read_lem a c ea wa eb ec wc ed =
      let b = held a c ea wa eb ec wc ed in
      record {
        held = b;
        live = λ records k r l.
            is_held (block_at (partial_in (decode records words cells) k) j)
            (ap (λ (q : ℕ). block_held words cells s.pieces s.blocks q j) (sym l.place)
            ∙ sym (block_is s records words cells r k l.low j l.block)) b;
      }

-- ---- storing
info_from : (x : BlockInfo) → block_from x.state x.num_peers (bit x.has_peer) x.peer ≡ block_of x
unfolding block_from block_of peer_from yes?
info_from x = λ i. record { state = state_from x.state; num_peers = x.num_peers; peer = go x.has_peer x.peer i }
  where
    go : (t : Bool) (n : ℕ) → peer_from (bit t) n ≡ cond t (some n) none
    go true n = refl
    go false n = refl

bit_low : (t : Bool) → bit t ≤ 1
bit_low true = omega arith
bit_low false = omega arith

-- numbers that stand at the place
pub block_stored : (s : Shape) (words cells words' cells' : List ℕ) (p j : ℕ) (x : BlockInfo) → x.state ≤ 3
    → BlockPut s words cells words' cells' p j x.state x.num_peers (bit x.has_peer) x.peer
    → BlockStored s words cells words' cells' p j x
block_stored s words cells words' cells' p j x h b = record {
  put = b;
  list = block_list_kept s words cells words' cells' p j x.state x.num_peers (bit x.has_peer) x.peer b;
  live = λ records k r l e.
      subst (λ (y : Block). Became s (with_partial k (with_block j y)) records words cells words' cells') (info_from x)
      (block_became s words cells words' cells' p j x.state x.num_peers (bit x.has_peer) x.peer b records r k l e
      (λ q. (h, bit_low x.has_peer)));
  elsewhere = λ records r none.
      block_elsewhere s words cells words' cells' p j x.state x.num_peers (bit x.has_peer) x.peer b records r none;
}

-- the four stores
pub block_set : (s : Shape) (words cells : List ℕ) → Spans s words cells → (p j : ℕ) (x : BlockInfo) (w : ℕ) (a b cells' words' : List ℕ)
    → p < s.places → j < s.blocks → x.state ≤ 3 → w ≡ bit x.has_peer
    → a ≡ set cells (block_cell_at s.pieces s.blocks 0 p j) x.state
    → b ≡ set a (block_cell_at s.pieces s.blocks 1 p j) x.num_peers
    → cells' ≡ set b (block_cell_at s.pieces s.blocks 2 p j) w
    → words' ≡ set words (peer_at s.pieces s.blocks p j) x.peer
    → BlockStored s words cells words' cells' p j x
block_set s words cells r p j x w a b cells' words' hp hj h ew ea eb ec ed =
    block_stored s words cells words' cells' p j x h
    (rw (ed, ec, eb, ea, ew)
    (block_put s words cells r.in_words r.in_cells p j x.state x.num_peers (bit x.has_peer) x.peer hp hj))

-- ---- a fresh block
module _ (s : Shape) (cells : List ℕ) (r : CellsSpan s cells) (p j state : ℕ) (hp : p < s.places) (hj : j < s.blocks)
    (h : state ≤ 3) where
  -- the cells after the three stores
  abbrev after_fresh : List ℕ
  after_fresh =
      set (set (set cells (block_cell_at s.pieces s.blocks 0 p j) state) (block_cell_at s.pieces s.blocks 1 p j) 0)
      (block_cell_at s.pieces s.blocks 2 p j) 0

  put : (words : List ℕ) → BlockPut s words cells words after_fresh p j state 0 0 (peer_word words s.pieces s.blocks p j)
  unfolding choose
  put words =
      let a = block_cell_put s words cells words cells p j _ _ _ _ hp hj (block_none s words cells p j) r 0 state (omega arith) in
      let b = block_cell_put s words cells words _ p j _ _ _ _ hp hj a r 1 0 (omega arith) in
      block_cell_put s words cells words _ p j _ _ _ _ hp hj b r 2 0 (omega arith)

  fresh : BlockFresh s cells after_fresh p j state
  unfolding block_from peer_from yes?
  fresh = record {
    put = put;
    held = λ words. put_is s words cells words after_fresh p j state 0 0 (peer_word words s.pieces s.blocks p j) (put words);
    plain = record { state = rw (put cells).state_is h; has = rw (put cells).has_is (omega arith) };
    elsewhere = λ records words q none.
        block_elsewhere s words cells words after_fresh p j state 0 0 (peer_word words s.pieces s.blocks p j) (put words) records q
        none;
  }

  -- the three stores
  pub block_fresh : (a b cells' : List ℕ) → a ≡ set cells (block_cell_at s.pieces s.blocks 0 p j) state
      → b ≡ set a (block_cell_at s.pieces s.blocks 1 p j) 0
      → cells' ≡ set b (block_cell_at s.pieces s.blocks 2 p j) 0
      → BlockFresh s cells cells' p j state
  block_fresh a b cells' ea eb ec = rw (ec, eb, ea) fresh

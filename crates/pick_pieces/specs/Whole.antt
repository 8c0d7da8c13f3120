-- What a whole pick asks for, gives and leaves. Assumes nothing.
use Rattle.std.specs.Prelude.{ℕ, ◌+◌, ◌≤◌, ◌<◌, ◌≡◌, List, [], ◌∷◌, length, get_or}
use Rattle.model.specs.State.{Picker}
use Rattle.model.specs.pick.Blocks.{PickState}
use Rattle.memory_layout.specs.declared.shape.Shape.{Shape}
use Rattle.memory_layout.specs.Stores.{WordsKept}
use Rattle.pick_state.specs.declared.request.PickRequest.{PickRequest as Request}
use Rattle.pick_state.specs.PickStates.{blocks_between}
use Rattle.pick_free.specs.Picking.{Picks}
use Rattle.pick_pieces.specs.declared.pieces.Picked.{Picked}

-- what is asked is in range, and the output has room behind place `end`
pub record PickRoom (q : Request) (many end long : ℕ) : Type 0 where
  pub some : 1 ≤ q.wanted
  pub wanted : q.wanted ≤ 2048
  pub contiguous : q.contiguous ≤ 2048
  pub peers : q.peers ≤ 1000
  pub suggestions : many ≤ 256
  pub room : end + q.wanted + q.contiguous + 255 ≤ long

-- the seven counters, in document 01's order
unfoldable pub loops_of : (r : Picked) → List ℕ
loops_of r =
    r.partial_loops ∷ r.suggest_loops ∷ r.reverse_rare_loops ∷ r.rare_loops ∷ r.rand_start_loops ∷ r.rand_loops
    ∷ r.busy_loops ∷ []

-- what the pick has come to is the definition's w: the picker, the blocks that stand in the output from `start` on, flags, counters and
-- draws; of the output nothing else was written
pub record PickGave (w : PickState) (d : Picker) (start : ℕ) (out out' : List ℕ) (r : Picked) : Type 0 where
  pub picker : d ≡ w.picker
  pub blocks : blocks_between start r.end out' ≡ w.out
  pub flags : r.flags ≡ w.flags
  pub loops : loops_of r ≡ w.loops
  pub used : r.used ≡ w.used
  pub rises : start ≤ r.end
  pub within : r.end ≤ length out'
  pub long : length out' ≡ length out
  pub others : (k : ℕ) → (start ≤ k → k < r.end → ⊥) → get_or out' k 0 ≡ get_or out k 0

-- a well-formed picker stands in the words again, and nothing beyond the needs has moved
pub record PickLeft (s : Shape) (live : ℕ) (rows words words' cells : List ℕ) (q : Request) : Type 0 where
  pub picks : Picks s live rows words' cells q
  pub words_kept : WordsKept s words words'

-- The phases of a pick put together, and what is left where they end. Assumes nothing.
use Rattle.std.specs.Prelude.{ℕ, ◌≤◌, ◌≡◌, Bool, List, length}
use Rattle.model.specs.Lists.{nth, unless, walk}
use Rattle.model.specs.list.Order.{Draws}
use Rattle.model.specs.pick.Blocks.{PickRequest, PickState, spent}
use Rattle.model.specs.pick.Pick.{pick_partials, suggest, pick_main, pick_rest}
use Rattle.memory_layout.specs.declared.shape.Shape.{Shape}
use Rattle.memory_layout.specs.Stores.{WordsKept}
use Rattle.memory_rows.specs.Lookup.{picker_in}
use Rattle.pick_state.specs.declared.numbers.PickNumbers.{PickNumbers}
use Rattle.pick_state.specs.declared.request.PickRequest.{PickRequest as Request}
use Rattle.pick_state.specs.PickStates.{state_of, OutKept}
use Rattle.pick_free.specs.Picking.{Picks}

-- partials, then the pieces suggested
unfoldable pub pick_first : (a : PickRequest) (suggestions : List ℕ) (w : PickState) → PickState
pick_first a suggestions w =
    let v = pick_partials a w in
    unless (spent v) (walk (suggest a) spent suggestions) v

-- the main phase, then the rest
unfoldable pub pick_last : (draws : Draws) (a : PickRequest) (w : PickState) → PickState
pick_last draws a w =
    let v = pick_main draws a w in
    unless (spent v) (pick_rest draws a) v

-- all of them
unfoldable pub pick_phases : (draws : Draws) (a : PickRequest) (suggestions : List ℕ) (w : PickState) → PickState
pick_phases draws a suggestions w =
    let v = pick_first a suggestions w in
    unless (spent v) (pick_last draws a) v

-- no counter is above n
pub record LowLoops (n : ℕ) (loops : List ℕ) : Type 0 where
  pub low : (k : ℕ) → nth 0 loops k ≤ n

-- `step` was made, and led from the picker in the words to another one there, which stands; the pick is over or may be
pub record Ended (step : PickState → PickState) (s : Shape) (live : ℕ) (rows words words' cells : List ℕ) (q : Request) (t r : PickNumbers)
    (out aside : List ℕ) (ignored : List Bool) (loops : List ℕ) (out' aside' : List ℕ) (ignored' : List Bool) (loops' : List ℕ) : Type 0
  where
    pub is : (start : ℕ) → start ≤ t.end
        → state_of start (picker_in live rows words' cells) r out' aside' ignored' loops'
        ≡ step (state_of start (picker_in live rows words cells) t out aside ignored loops)
    pub kept : OutKept t r out out'
    pub within : r.end ≤ length out'
    pub long_aside : length aside' ≡ length aside
    pub long_ignored : length ignored' ≡ length ignored
    pub long_loops : length loops' ≡ length loops
    pub picks : Picks s live rows words' cells q
    pub words_kept : WordsKept s words words'

-- The rows of places after the last turn, as the queues of any picker whose live records the rows are. Assumes nothing.
use mathlib.Core.Path.{◌≡◌, sym, ◌∙◌}
use mathlib.Core.Bool.{true}
use mathlib.Core.List.{List, []}
use Prim.Native.Nat.{ℕ, ◌<◌}
use native.Mathlib.Omega.{arith}
use Rattle.model.specs.Lists.{nth, len}
use Rattle.model.specs.image.WellFormed.{well_formed}
use Rattle.memory_layout.specs.declared.shape.Shape.{Shape}
use Rattle.memory_layout.specs.Decode.{queue_from}
use Rattle.memory_layout.specs.Changes.{partial_in}
use Rattle.memory_rows.specs.Lookup.{LiveRows, picker_in}
use Rattle.memory_halving.proofs.RowLaws.{rows_rise}
use Rattle.memory_rows.proofs.RisingLaws.{live_number, live-piece, well_formed_rise}
use Rattle.memory_queues.specs.Queues.{queue_in, queue_held, places_in, Queued, Entered, InQueues, Filled}
use Rattle.memory_queues.proofs.PlaceLaws.{places_rising}
use Rattle.memory_queues.proofs.EnterLaws.{entered_same, place_is, size_is, row_queue}
use Rattle.memory_queues.proofs.StandLaws.{held_is}

module _ (s : Shape) (live : ℕ) (rows cells : List ℕ) (g : InQueues s live rows cells) (queues : List (List ℕ)) (sizes : List ℕ) (k : ℕ)
    (h : Entered (queue_held cells rows s.pieces) k queues sizes) (e : k ≡ live) where
  module _ (words : List ℕ) (v : LiveRows s live rows words cells) where
    -- all partials
    places_held : Queued (picker_in live rows words cells) queues sizes
    places_held =
        let n = live_number s live rows words cells v in
        entered_same (queue_held cells rows s.pieces) (queue_in (picker_in live rows words cells)) queues sizes k
        (len (picker_in live rows words cells).partials) h (e ∙ sym n) (λ j l.
        let m : j < live = omega arith in
        held_is s live rows words cells v j m (g.there j m))

    -- a row's pieces rise
    row_rises : well_formed (picker_in live rows words cells) ≡ true → (q i j : ℕ) → q < 4 → i < j → j < nth 0 sizes q
        → (partial_in (picker_in live rows words cells) (nth 0 (nth [] queues q) i)).piece
        < (partial_in (picker_in live rows words cells) (nth 0 (nth [] queues q) j)).piece
    unfolding places_in
    row_rises w q i j l a b =
        let d = picker_in live rows words cells in
        let n = live_number s live rows words cells v in
        let r = places_rising (queue_in d) (queue_from q) (len d.partials) in
        let m = size_is d queues sizes places_held q l in
        let ei = place_is d queues sizes places_held q l i (omega arith) in
        let ej = place_is d queues sizes places_held q l j b in
        let x : nth 0 (nth [] queues q) i < nth 0 (nth [] queues q) j = omega (arith, r.rises i j a (omega arith)) in
        let y : nth 0 (nth [] queues q) j < live = omega (arith, r.below j (omega arith)) in
        omega (
          arith,
          live-piece s live rows words cells v (nth 0 (nth [] queues q) i) (omega arith),
          live-piece s live rows words cells v (nth 0 (nth [] queues q) j) y,
          rows_rise live rows (well_formed_rise s live rows words cells v w) (nth 0 (nth [] queues q) i) (nth 0 (nth [] queues q) j) x y,
        )

  -- all of it
  pub filled : Filled s live rows cells queues sizes
  filled = record {
    places = places_held;
    queue = λ words v. row_queue (picker_in live rows words cells) queues sizes (places_held words v);
    rising = row_rises;
  }

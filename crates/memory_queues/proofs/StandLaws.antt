-- The queue of each live row: by the number of its state, and, in a well-formed picker, one of the four. Assumes nothing.
use mathlib.Core.Path.{◌≡◌, refl, sym, ap, ◌∙◌}
use mathlib.Core.Bool.{true}
use mathlib.Core.List.{List, []}
use mathlib.Core.Option.{none-ne-some}
use Prim.Native.Nat.{ℕ, ◌%◌, ◌≤◌, ◌<◌}
use native.Mathlib.Decide.{dec_lt}
use native.Mathlib.Omega.{arith}
use lib.ListN.{get_or}
use Rattle.types.specs.declared.queue.DownloadQueue.{DownloadQueue}
use Rattle.types.specs.declared.queue.DownloadQueue.TheVariants.{Downloading, Full, Finished, ZeroPrio, Open, DownloadingReverse}
use Rattle.types.specs.declared.queue.DownloadQueue.TheVariants.{FullReverse}
use Rattle.types.specs.Queue.{queue_number, unreverse}
use Rattle.model.specs.Lists.{nth, len}
use Rattle.model.specs.State.{Picker, no_piece, same_queue, is_open, piece_at, pieces_in}
use Rattle.model.specs.pick.Pick.{no_partial}
use Rattle.model.specs.change.Partials.{partial_of}
use Rattle.model.specs.image.WellFormed.{well_formed}
use Rattle.model.proofs.sound.PieceLaws.{piece_at_beyond}
use Rattle.model.proofs.sound.PartialLaws.{find_dl_piece_at}
use Rattle.model.proofs.sound.SoundLaws.{well_formed_sound}
use Rattle.memory_records.specs.Rows.{records_in}
use Rattle.memory_layout.specs.declared.shape.Shape.{Shape}
use Rattle.memory_layout.specs.Decode.{piece_cell, queue_from}
use Rattle.memory_layout.specs.Changes.{partial_in}
use Rattle.memory_layout.proofs.Numbers.{plain_low, plain_high, number_queue, queue_none}
use Rattle.memory_layout.proofs.Meanings.{pieces_number, state_is}
use Rattle.memory_rows.specs.Lookup.{LiveRows, picker_in}
use Rattle.memory_rows.proofs.RisingLaws.{live_number, live-piece}
use Rattle.memory_queues.specs.Queues.{queue_in, queue_held, InQueues}

-- ---- states by number
-- a state other than Open is in one of the four queues
plain_few : (q : DownloadQueue) → (is_open q ≡ true → ⊥) → queue_number (unreverse q) < 4
unfolding is_open same_queue
plain_few Downloading n = omega arith
plain_few Full n = omega arith
plain_few Finished n = omega arith
plain_few ZeroPrio n = omega arith
plain_few Open n = absurd (n refl)
plain_few DownloadingReverse n = omega arith
plain_few FullReverse n = omega arith

-- a number that no state has is in none of them
open_none : (w : ℕ) → 7 ≤ w → queue_number (unreverse (queue_from w)) ≡ 4
unfolding queue_from nth
open_none w h =
    ap (λ (q : DownloadQueue). queue_number (unreverse q)) (sym (number_queue (queue_from w)) ∙ ap queue_from (queue_none w h))

-- without direction the number is the remainder by five
pub plain_rest : (w : ℕ) → w ≤ 6 → w % 5 ≡ queue_number (unreverse (queue_from w))
plain_rest w h = elim (dec_lt w 5) [
  | yes l ↦ omega (arith, plain_low w l)
  | no n ↦ omega (arith, plain_high w (omega (arith, n)) h)
]

-- so the queue of row k, from the number of its piece's state
pub queue_plain : (s : Shape) (rows cells : List ℕ) (k : ℕ) → piece_cell cells s.pieces 1 (get_or rows k 0) ≤ 6 → (piece state : ℕ)
    → piece ≡ get_or rows k 0 → state ≡ piece_cell cells s.pieces 1 piece → (r : ℕ) → r ≡ state % 5
    → r ≡ queue_number (queue_held cells rows s.pieces k)
unfolding queue_held
queue_plain s rows cells k h piece state e f r g =
    g ∙ ap (λ (w : ℕ). w % 5) (f ∙ ap (piece_cell cells s.pieces 1) e) ∙ plain_rest (piece_cell cells s.pieces 1 (get_or rows k 0)) h

no_piece_open : is_open no_piece.state ≡ true
unfolding no_piece is_open same_queue
no_piece_open = refl

-- ---- a well-formed picker
module _ (d : Picker) (w : well_formed d ≡ true) (k : ℕ) (h : k < len d.partials) where
  not_open : is_open (piece_at d (partial_in d k).piece).state ≡ true → ⊥
  unfolding partial_in partial_of
  not_open e =
      let v = well_formed_sound d w in
      none-ne-some (partial_in d k) (sym (v.vacant (partial_in d k).piece e)
      ∙ find_dl_piece_at 0 k no_partial d.partials v.rising h)

  -- the piece of a partial is there
  pub piece_there : (partial_in d k).piece < pieces_in d
  piece_there = elim (dec_lt (partial_in d k).piece (pieces_in d)) [
    | yes l ↦ l
    | no n ↦ absurd (not_open (rw (piece_at_beyond d (partial_in d k).piece (omega (arith, n))) no_piece_open))
  ]

  -- and in one of the four queues
  pub queue_few : queue_number (queue_in d k) < 4
  unfolding queue_in
  queue_few = plain_few (piece_at d (partial_in d k).piece).state not_open

-- ---- rows
-- the cell of a row's state has the number of a state
pub state_range : (s : Shape) (live : ℕ) (rows cells : List ℕ) → InQueues s live rows cells → (k : ℕ) → k < live
    → piece_cell cells s.pieces 1 (get_or rows k 0) ≤ 6
unfolding queue_held
state_range s live rows cells g k h = elim (dec_lt (piece_cell cells s.pieces 1 (get_or rows k 0)) 7) [
  | yes l ↦ omega (arith, l)
  | no n ↦ omega (arith, open_none (piece_cell cells s.pieces 1 (get_or rows k 0)) (omega (arith, n)), g.queue k h)
]

module _ (s : Shape) (live : ℕ) (rows words cells : List ℕ) (g : LiveRows s live rows words cells) where
  -- the queue that a row's cell gives is the picker's
  pub held_is : (k : ℕ) → k < live → get_or rows k 0 < s.pieces
      → queue_held cells rows s.pieces k ≡ queue_in (picker_in live rows words cells) k
  unfolding queue_held queue_in
  held_is k h l =
      ap unreverse (sym (state_is s (records_in live rows) words cells g.bounds (get_or rows k 0) l)
      ∙ ap (λ (i : ℕ). (piece_at (picker_in live rows words cells) i).state) (sym (live-piece s live rows words cells g k h)))

  -- what a well-formed picker gives
  pub in_queues : well_formed (picker_in live rows words cells) ≡ true → InQueues s live rows cells
  in_queues w =
      let d = picker_in live rows words cells in
      let n = live_number s live rows words cells g in
      let there : (k : ℕ) → k < live → get_or rows k 0 < s.pieces = λ k h.
      omega (
        arith,
        live-piece s live rows words cells g k h,
        piece_there d w k (omega arith),
        pieces_number s (records_in live rows) words cells g.bounds,
      ) in
      record {
        few = omega (arith, (well_formed_sound d w).few);
        there = there;
        queue = λ k h. rw (held_is k h (there k h)) (queue_few d w k (omega arith));
      }

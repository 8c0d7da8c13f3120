-- An Open piece has no row. Assumes nothing.
use mathlib.Core.Path.{◌≡◌, sym, ap, ◌∙◌}
use mathlib.Core.Logic.{◌≢◌}
use mathlib.Core.Bool.{true}
use mathlib.Core.List.{List}
use mathlib.Core.Option.{none-ne-some}
use Prim.Native.Nat.{ℕ, ◌<◌}
use native.Mathlib.Omega.{arith}
use lib.ListN.{get_or}
use borrow.Author.Tests.{eq-eqb}
use Rattle.types.specs.declared.queue.DownloadQueue.{DownloadQueue}
use Rattle.types.specs.Queue.{queue_number}
use Rattle.model.specs.Lists.{nth, len}
use Rattle.model.specs.State.{Picker, is_open, same_queue, piece_at}
use Rattle.model.specs.pick.Pick.{no_partial}
use Rattle.model.specs.change.Partials.{find_dl_piece, partial_of}
use Rattle.model.proofs.sound.SoundLaws.{well_formed_sound}
use Rattle.model.proofs.sound.PartialLaws.{find_dl_piece_at}
use Rattle.memory_records.specs.Rows.{records_in}
use Rattle.memory_layout.specs.declared.shape.Shape.{Shape}
use Rattle.memory_layout.specs.Decode.{decode}
use Rattle.memory_layout.specs.Changes.{partial_in}
use Rattle.memory_rows.specs.Lookup.{LiveRows}
use Rattle.memory_rows.proofs.RisingLaws.{live_number, live-piece, rise_is}
use Rattle.change_tally.specs.RowsStanding.{RowsStand}
use Rattle.change_returns.proofs.WholeLaws.{find_asks}

-- 4 is the number of Open alone
pub open_number : (q : DownloadQueue) → queue_number q ≡ 4 → is_open q ≡ true
unfolding is_open same_queue
open_number q e = eq-eqb (queue_number q) 4 e

module _ (s : Shape) (live : ℕ) (rows counts words cells : List ℕ) (g : RowsStand s live rows counts words cells) where
  abbrev d : Picker
  d = decode (records_in live rows) words cells

  live-rows : LiveRows s live rows words cells
  live-rows = record { bounds = g.stands.bounds; many = g.many }

  -- none of the rows is of an Open piece
  pub open_rows : (i : ℕ) → is_open (piece_at d i).state ≡ true → (j : ℕ) → j < live → get_or rows j 0 ≢ i
  unfolding partial_of partial_in
  open_rows i o j h e =
      let l : j < len d.partials = omega (arith, live_number s live rows words cells live-rows) in
      let p : (nth no_partial d.partials j).piece ≡ i = live-piece s live rows words cells live-rows j h ∙ e in
      let r = sym (rise_is s live rows words cells live-rows) ∙ (find_asks s live rows counts words cells g).1 in
      none-ne-some _
      (sym ((well_formed_sound d g.stands.sound).vacant i o) ∙ ap (λ (k : ℕ). find_dl_piece k d.partials) (sym p)
      ∙ find_dl_piece_at 0 j no_partial d.partials r l)

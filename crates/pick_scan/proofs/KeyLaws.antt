-- The number of a partial, by its row, and rows filled from others. Assumes nothing.
use mathlib.Core.Path.{◌≡◌, sym, ap, ap₂, subst, ◌∙◌}
use mathlib.Core.List.{List}
use Prim.Native.Nat.{ℕ, ◌+◌, ◌-◌, ◌*◌, ◌≤◌, ◌<◌}
use native.Mathlib.Decide.{ℕ_discrete}
use native.Mathlib.Omega.{arith}
use lib.ListN.{length, get_or, set, take, length-set}
use lib.Seq.{get_or-set_same, get_or-set_other, get_or-take, length-take-le, ext_get_or}
use Rattle.types.specs.declared.block.BlockState.TheVariants.{Requested, Writing, Finished}
use Rattle.model.specs.Lists.{each, len}
use Rattle.model.specs.State.{Picker, piece_at}
use Rattle.model.specs.change.Partials.{progress}
use Rattle.memory_records.specs.Rows.{row_at, records_in}
use Rattle.memory_layout.specs.declared.shape.Shape.{Shape}
use Rattle.memory_layout.specs.Decode.{blocks_of, block_held}
use Rattle.memory_layout.specs.Changes.{partial_in}
use Rattle.memory_layout.proofs.TableLaws.{tabulate-len}
use Rattle.memory_fields.specs.Reading.{CellsSay}
use Rattle.check_partials.specs.Records.{CountsHeld}
use Rattle.memory_rows.specs.Lookup.{picker_in}
use Rattle.memory_counts.specs.Counted.{CountSays}
use Rattle.memory_rows.proofs.RisingLaws.{live-piece}
use Rattle.ask_picker.specs.Asked.{Asked}
use Rattle.ask_picker.proofs.AskedLaws.{asked_rows, asked_queues, peers_few}
use Rattle.change_tally.proofs.TallyLaws.{progress_is, progress_low}
use Rattle.pick_partial.proofs.PartialLaws.{this-blocks, few_blocks}
use Rattle.pick_busy.proofs.ListLaws.{each-length, each_at}
use Rattle.pick_scan.specs.Scans.{order_of, key_of, Gives}

-- ---- one partial
module _ (s : Shape) (live : ℕ) (rows words cells : List ℕ) (g : Asked s live rows words cells) (k : ℕ) (h : k < live) where
  abbrev d : Picker
  d = picker_in live rows words cells

  -- it has at most 256 blocks
  pub blocks_small : len (partial_in d k).blocks ≤ 256
  blocks_small =
      let e : len (partial_in d k).blocks ≡ blocks_of words (row_at rows k).index =
      ap len (this-blocks s live rows words cells g k h)
      ∙ tabulate-len (blocks_of words (row_at rows k).index) (block_held words cells s.pieces s.blocks (row_at rows k).info_idx) in
      omega (arith, e, few_blocks s live rows words cells g k h, g.stands.bounds.spans.in_words.sizes.wide)

  pub progress_small : progress (partial_in d k) ≤ 256
  progress_small = omega (arith, progress_low (partial_in d k), blocks_small)

  -- by the counts
  pub progress_told : (counts : List ℕ) → CountsHeld d live counts → (asked came held : ℕ) → CountSays counts k Requested asked
      → CountSays counts k Writing came → CountSays counts k Finished held → (x y z : ℕ) → x ≡ asked → y ≡ came → z ≡ held
      → (x + y + z ≡ progress (partial_in d k)) × (x + y + z ≤ 256)
  progress_told counts o asked came held ca cc ch x y z ex ey ez =
      let e : x + y + z ≡ progress (partial_in d k) =
      omega (arith, ca.is d live o h, cc.is d live o h, ch.is d live o h, progress_is (partial_in d k)) in
      (e, omega (arith, progress_small))

  -- few peers have its piece
  pub peers_told : (i peers : ℕ) → i ≡ get_or rows k 0 → CellsSay s cells (λ v. (piece_at v i).peer_count) peers → peers ≤ 1000
  peers_told i peers e c =
      let l = (asked_queues s live rows words cells g).there k h in
      omega (
        arith,
        c.is (records_in live rows) words g.stands.bounds,
        peers_few s (records_in live rows) words cells g.stands i (omega arith),
      )

  pub key_is : (i peers : ℕ) → i ≡ get_or rows k 0 → CellsSay s cells (λ v. (piece_at v i).peer_count) peers → (n : ℕ) → n ≡ peers → (p : ℕ)
      → p ≡ progress (partial_in d k) → (r : ℕ) → r ≡ (n * 512 + (256 - p)) * 512 + k → r ≡ key_of d k
  unfolding key_of order_of
  key_is i peers e c n en p ep r er =
      er ∙ ap₂ (λ (x y : ℕ). (x * 512 + (256 - y)) * 512 + k)
      (en ∙ c.is (records_in live rows) words g.stands.bounds
      ∙ ap (λ (j : ℕ). (piece_at d j).peer_count) (e ∙ sym (live-piece s live rows words cells (asked_rows s live rows words cells g) k h))) ep

-- ---- a row filled from another
-- the first j are what f gives
pub record Giving (f : ℕ → ℕ) (xs ys : List ℕ) (j : ℕ) : Type 0 where
  pub same : (i : ℕ) → i < j → get_or ys i 0 ≡ f (get_or xs i 0)
  pub long : length ys ≡ 512

module _ (f : ℕ → ℕ) (xs : List ℕ) where
  pub giving_start : (ys : List ℕ) → length ys ≡ 512 → Giving f xs ys 0
  giving_start ys l = record { same = λ i h. absurd (omega arith); long = l }

  pub giving_next : (ys : List ℕ) (j : ℕ) → Giving f xs ys j → j < 512 → (y : ℕ) → y ≡ f (get_or xs j 0) → Giving f xs (set ys j y) (j + 1)
  giving_next ys j g h y e =
      record {
        same = λ i l. elim (ℕ_discrete i j) [
          | yes q ↦ subst (λ (n : ℕ). get_or (set ys j y) n 0 ≡ f (get_or xs n 0)) (sym q) (get_or-set_same ys j y 0 (omega (arith, g.long)) ∙ e)
          | no q ↦ get_or-set_other ys j i y 0 q ∙ g.same i (below i l q)
        ];
        long = length-set ys j y ∙ g.long;
      }
    where
      below : (i : ℕ) → i < j + 1 → (i ≡ j → ⊥) → i < j
      below i l n = omega arith

  pub giving_end : (many : ℕ) (ys : List ℕ) (j : ℕ) → many ≤ 512 → length xs ≡ 512 → Giving f xs ys j → many ≤ j → Gives f many xs ys
  giving_end many ys j b l g h =
      let n : length (take many ys) ≡ many = length-take-le many ys (omega (arith, g.long)) in
      let m : length (take many xs) ≡ many = length-take-le many xs (omega arith) in
      record {
        is = ext_get_or 0 (take many ys) (each f (take many xs)) (n ∙ sym (each-length f (take many xs) ∙ m)) (λ i q.
            get_or-take many ys i 0 (omega arith) ∙ g.same i (omega arith) ∙ ap f (sym (get_or-take many xs i 0 (omega arith)))
            ∙ sym (each_at f (take many xs) i 0 (omega arith)));
        long = g.long;
      }

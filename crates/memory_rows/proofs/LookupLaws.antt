-- What the end of the search by halving says of the records and of the picker. Assumes nothing.
use Rattle.std.specs.Prelude.{None, Some}
use mathlib.Core.Path.{◌≡◌, sym, ap, ◌∙◌}
use mathlib.Core.Logic.{◌≢◌, ◌⊎◌, ⊎_elim}
use mathlib.Core.Bool.{Bool, true, false}
use mathlib.Core.List.{List}
use Prim.Native.Nat.{ℕ, zero, suc, ◌+◌, ◌≤◌, ◌<◌}
use native.Mathlib.Decide.{ℕ_discrete}
use native.Mathlib.Omega.{arith}
use lib.Dec.{eqb}
use lib.ListN.{get_or}
use borrow.Author.Tests.{eq-eqb, ne_eqb}
use Rattle.model.specs.Lists.{nth, len}
use Rattle.model.specs.State.{DownloadingPiece}
use Rattle.model.specs.pick.Pick.{no_partial}
use Rattle.model.specs.change.Partials.{find_dl_piece, partial_of}
use Rattle.model.proofs.sound.PartialLaws.{found_or_none, find_dl_piece-piece, find_dl_piece_at, find_dl_piece_place}
use Rattle.memory_records.specs.Records.{no_record, place_of, first_from, seek_from, answer_of, rising_from}
use Rattle.memory_records.specs.Rows.{row_at, records_in}
use Rattle.memory_records.proofs.laws.SearchLaws.{at_hit, at_miss}
use Rattle.memory_layout.specs.Changes.{partial_in}
use Rattle.memory_halving.specs.Halving.{Halves}
use Rattle.memory_halving.proofs.RowLaws.{row_index}
use Rattle.memory_rows.specs.Lookup.{picker_in, FoundIn}
use Rattle.memory_rows.proofs.RisingLaws.{live_number, live-nth, live-piece, rise_is}

-- ---- the first of some places that passes a test
module _ (test : ℕ → Bool) where
  first_at : (t k p : ℕ) → k ≤ p → p < k + t → test p ≡ true → ((j : ℕ) → k ≤ j → j < p → test j ≡ false) → first_from test t k ≡ p
  first_at zero k p a b e f = absurd (omega arith)
  first_at (suc t) k p a b e f = elim (ℕ_discrete k p) [
    | yes g ↦ ap (λ (q : Bool). place_of q k (first_from test t (suc k))) (ap test g ∙ e) ∙ g
    | no g ↦
        ap (λ (q : Bool). place_of q k (first_from test t (suc k))) (f k (omega arith) (omega (arith, g)))
        ∙ first_at t (suc k) p (omega (arith, g)) (omega arith) e (λ j h l. f j (omega arith) l)
  ]

  first_none : (t k : ℕ) → ((j : ℕ) → k ≤ j → j < k + t → test j ≡ false) → first_from test t k ≡ k + t
  first_none zero k f = omega arith
  first_none (suc t) k f =
      ap (λ (q : Bool). place_of q k (first_from test t (suc k))) (f k (omega arith) (omega arith))
      ∙ first_none t (suc k) (λ j h l. f j (omega arith) (omega arith)) ∙ omega arith

-- ---- what the search answers
module _ (live : ℕ) (rows : List ℕ) (i : ℕ) where
  is_of : ℕ → Bool
  is_of j = eqb (get_or (records_in live rows) j no_record).index i

  -- row k is the piece's
  module _ (k : ℕ) (g : Halves live rows i k k) (r : rising_from 0 (records_in live rows) ≡ true) (h : k < live) (e : get_or rows k 0 ≡ i) where
    pub found_there : Some k ≡ answer_of (seek_from live 0 (records_in live rows) i) live
    unfolding is_of
    found_there =
        let f = first_at is_of live 0 k (omega arith) (omega arith) (eq-eqb _ i (row_index live rows k h ∙ e)) (λ j a b.
        ne_eqb _ i (λ q. omega (arith, g.below j b, row_index live rows j (omega arith)))) in
        sym (ap (λ (p : ℕ). answer_of p live) f ∙ at_hit k live h)

    pub found_partial : FoundIn live rows i (Some k)
    unfolding row_at partial_of partial_in
    found_partial = record {
      row = (h, e);
      is = λ s words cells v.
          let d = picker_in live rows words cells in
          let l : k < len d.partials = omega (arith, live_number s live rows words cells v) in
          let p : (nth no_partial d.partials k).piece ≡ i = live-piece s live rows words cells v k h ∙ e in (
            l,
            ap (λ (j : ℕ). find_dl_piece j d.partials) (sym p)
                ∙ find_dl_piece_at 0 k no_partial d.partials (sym (rise_is s live rows words cells v) ∙ r) l,
          );
    }

  -- no row is
  module _ (n : (j : ℕ) → j < live → get_or rows j 0 ≢ i) where
    pub none_there : None ≡ answer_of (seek_from live 0 (records_in live rows) i) live
    unfolding is_of
    none_there =
        let f = first_none is_of live 0 (λ j a b.
        ne_eqb _ i (λ q. n j (omega arith) (sym (row_index live rows j (omega arith)) ∙ q))) in
        sym (ap (λ (p : ℕ). answer_of p live) f ∙ at_miss (0 + live) live (omega arith))

    pub no_partial_lem : FoundIn live rows i None
    unfolding row_at partial_of partial_in
    no_partial_lem = record {
      row = n;
      is = λ s words cells v.
          let d = picker_in live rows words cells in
          ⊎_elim (λ e. e) (λ w.
          let p = find_dl_piece_place i w.0 d.partials w.1 in
          let l : p.0 < live = omega (arith, p.1, live_number s live rows words cells v) in
          absurd (n p.0 l (sym (live-nth s live rows words cells v p.0 l w.0)
          ∙ ap (λ (x : DownloadingPiece). x.piece) p.2 ∙ find_dl_piece-piece i d.partials w.0 w.1)))
          (found_or_none i d.partials);
    }

-- The pass over the records. Assumes nothing.
use mathlib.Core.Path.{◌≡◌, refl, sym, ap, ◌∙◌}
use mathlib.Core.Bool.{Bool, true, false, not}
use mathlib.Core.List.{List}
use Prim.Native.Nat.{ℕ, ◌+◌, ◌≤◌, ◌<◌}
use native.Mathlib.Numerals.{add-one}
use lib.Dec.{eqb, ltb, leb}
use borrow.Author.Tests.{ltb-true, lt-leb, le-leb, not-true}
use Rattle.model.proofs.base.Truths.{both_true, true_both}
use Rattle.model.proofs.base.Counts.{and_false}
use Rattle.memory_records.specs.declared.record.DownloadingPiece.{DownloadingPiece as Record}
use Rattle.memory_layout.specs.Decode.{piece_cell}
use Rattle.check_blocks.specs.Below.{all_below}
use Rattle.check_partials.specs.Records.{blocks_good, record_good, index_at, place_at, flags_at, good_at, lowest, record_next}
use Rattle.check_blocks.proofs.BelowLaws.{all_next, all_false}

-- ---- a good partial
pub good_parts : (rs : List Record) (words cells : List ℕ) (n b k : ℕ) → good_at rs words cells n b k ≡ true → (index_at rs k < n)
    × (eqb (piece_cell cells n 1 (index_at rs k)) 4 ≡ false)
    × (leb (flags_at rs k) 7 ≡ true)
    × (blocks_good words cells n b (index_at rs k) (place_at rs k) (leb 4 (flags_at rs k)) ≡ true)
unfolding record_good
good_parts rs words cells n b k h =
    let a = both_true (ltb (index_at rs k) n) _ h in
    let d = both_true (not (eqb (piece_cell cells n 1 (index_at rs k)) 4)) _ a.1 in
    let e = both_true (leb (flags_at rs k) 7) _ d.1 in
    (ltb-true (index_at rs k) n a.0, not-true _ d.0, e.0, e.1)

-- ---- one after another
-- after k partials: all passed, and the next piece is lo at least
pub record Passing (rs : List Record) (words cells : List ℕ) (n b lo k : ℕ) : Type 0 where
  pub good : all_below (record_next rs words cells n b) k ≡ true
  pub low : lo ≡ lowest 0 (index_at rs) k

pub pass_start : (rs : List Record) (words cells : List ℕ) (n b : ℕ) → Passing rs words cells n b 0 0
unfolding all_below lowest
pass_start rs words cells n b = record { good = refl; low = refl }

pub pass_end : (rs : List Record) (words cells : List ℕ) (n b lo k m : ℕ) → Passing rs words cells n b lo k → k ≡ m → true
    ≡ all_below (record_next rs words cells n b) m
pass_end rs words cells n b lo k m g e = sym g.good ∙ ap (all_below (record_next rs words cells n b)) e

module _ (rs : List Record) (words cells : List ℕ) (n b lo k : ℕ) (g : Passing rs words cells n b lo k) (m : ℕ) (l : k < m) (p : ℕ)
    (ep : p ≡ index_at rs k) where
  stops : record_next rs words cells n b k ≡ false → false ≡ all_below (record_next rs words cells n b) m
  stops e = sym (all_false (record_next rs words cells n b) k m l e)

  pub pass_falls : p < lo → false ≡ all_below (record_next rs words cells n b) m
  pass_falls h = stops (unfold record_next in (rw (← g.low, ← ep, lt-leb lo p h)))

  module _ (ok : Bool) (e : ok ≡ good_at rs words cells n b k) where
    pub pass_bad : ok ≡ false → false ≡ all_below (record_next rs words cells n b) m
    pass_bad h = stops (unfold record_next in (rw (← e, h, and_false)))

    pub pass_next : lo ≤ p → ok ≡ true → Passing rs words cells n b (p + 1) (k + 1)
    pass_next f h =
        record {
          good = all_next (record_next rs words cells n b) k g.good
              (unfold record_next in (true_both (leb (lowest 0 (index_at rs) k) (index_at rs k)) (good_at rs words cells n b k)
              (rw (← g.low, ← ep) (le-leb lo p f)) (sym e ∙ h)));
          low = unfold lowest in (rw (add-one p, add-one k, ep));
        }

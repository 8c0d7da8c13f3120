-- Records one after another: what each return of the test of their places says, and what a turn keeps. Assumes nothing.
use mathlib.Core.Path.{◌≡◌, refl, sym, ap, ◌∙◌}
use Prim.Native.Nat.{ℕ, ◌+◌, ◌≤◌, ◌<◌}
use native.Mathlib.Omega.{arith}
use native.Mathlib.Numerals.{add-one}
use native.Mathlib.Decide.{ℕ_discrete}
use mathlib.Core.Bool.{Bool, true, false, ◌||◌, or-true, or-false}
use mathlib.Core.List.{List, [], ◌∷◌, ◌++◌}
use lib.Dec.{eqb}
use lib.ListN.{length, get_or, set, replicate, length-replicate, get_or-replicate, length-set}
use lib.Seq.{get_or-set_same, get_or-set_other}
use borrow.Author.Tests.{lt-ltb, le-ltb, eq-eqb, ne_eqb}
use Rattle.model.specs.Lists.{member, any}
use Rattle.model.proofs.base.Counts.{and_false}
use Rattle.memory_records.specs.declared.record.DownloadingPiece.{DownloadingPiece as Record}
use Rattle.memory_records.specs.Rows.{row_at, records_in}
use Rattle.memory_records.proofs.laws.RowLaws.{records_at}
use Rattle.memory_layout.specs.declared.shape.Shape.{Shape}
use Rattle.memory_layout.specs.Tables.{tabulate}
use Rattle.memory_layout.specs.Offsets.{places_for}
use Rattle.memory_layout.specs.Decode.{head_word, record_at, pieces_on}
use Rattle.memory_layout.specs.Bounds.{ShapeOf}
use Rattle.memory_layout.specs.Good.{place_raw, good_places}
use Rattle.memory_layout.proofs.TableLaws.{tabulate_more}
use Rattle.check_blocks.specs.Below.{all_below}
use Rattle.check_partials.specs.Records.{record_good, index_at, place_at, good_at}
use Rattle.check_blocks.proofs.BelowLaws.{all_next, all_false, below_every}

-- a list with one more
member_more : (x y : ℕ) (l : List ℕ) → member x (l ++ (y ∷ [])) ≡ (member x l || eqb x y)
unfolding member any
member_more x y [] = or-false (eqb x y)
member_more x y (z ∷ zs) = go (eqb x z) (member_more x y zs)
  where
    go : (t : Bool) → member x (zs ++ (y ∷ [])) ≡ (member x zs || eqb x y)
        → (t || any (eqb x) (zs ++ (y ∷ []))) ≡ ((t || any (eqb x) zs) || eqb x y)
    go true e = refl
    go false e = e

-- the place of record k
unfoldable pub place_of : (rs : List Record) (k : ℕ) → ℕ
place_of rs k = (record_at rs k).info_idx

-- record k is row k
pub live_row : (live : ℕ) (rows : List ℕ) (k : ℕ) → k < live → record_at (records_in live rows) k ≡ row_at rows k
unfolding record_at
live_row live rows k l = records_at live rows k l

pub live_place : (live : ℕ) (rows : List ℕ) (k : ℕ) → k < live → (d : Record) → d ≡ row_at rows k → (q : ℕ) → q ≡ d.info_idx
    → q ≡ place_of (records_in live rows) k
unfolding place_of
live_place live rows k l d e q f = f ∙ ap (λ (x : Record). x.info_idx) (e ∙ sym (live_row live rows k l))

-- after k records: all passed, and their places are marked
pub record Marked (rs : List Record) (n : ℕ) (marks : List Bool) (k : ℕ) : Type 0 where
  pub good : all_below (place_raw rs n) k ≡ true
  pub mark : (j : ℕ) → j < 512 → get_or marks j false ≡ member j (tabulate k (place_of rs))
  pub size : length marks ≡ 512

pub marked_start : (rs : List Record) (n : ℕ) → Marked rs n (replicate 512 false) 0
unfolding all_below member any tabulate
marked_start rs n = record { good = refl; mark = λ j h. get_or-replicate 512 j false false h; size = length-replicate 512 false }

pub marked_end : (rs : List Record) (n : ℕ) (marks : List Bool) (k m : ℕ) → Marked rs n marks k → k ≡ m → true ≡ all_below (place_raw rs n) m
marked_end rs n marks k m g e = sym g.good ∙ ap (all_below (place_raw rs n)) e

module _ (rs : List Record) (n : ℕ) (marks : List Bool) (k : ℕ) (g : Marked rs n marks k) (m : ℕ) (l : k < m) (q : ℕ)
    (eq : q ≡ place_of rs k) where
  stops : place_raw rs n k ≡ false → false ≡ all_below (place_raw rs n) m
  stops e = sym (all_false (place_raw rs n) k m l e)

  -- a place past the last
  pub marked_beyond : places_for n ≤ q → false ≡ all_below (place_raw rs n) m
  unfolding place_of
  marked_beyond h = stops (unfold place_raw in (rw (← eq, le-ltb q (places_for n) h)))

  module _ (lq : q < 512) where
    here : get_or marks q false ≡ member (record_at rs k).info_idx (tabulate k (λ l. (record_at rs l).info_idx))
    unfolding place_of
    here = g.mark q lq ∙ ap (λ (x : ℕ). member x (tabulate k (place_of rs))) eq

    -- a place that a record before has
    pub marked_twice : get_or marks q false ≡ true → false ≡ all_below (place_raw rs n) m
    marked_twice h = stops (unfold place_raw in (rw (← here, h, and_false)))

    marked : (j : ℕ) → j < 512 → get_or (set marks q true) j false ≡ member j (tabulate (k + 1) (place_of rs))
    marked j h =
        rw (add-one, tabulate_more k (place_of rs), member_more, ← eq) (elim (ℕ_discrete j q) [
          | yes e ↦
              ap (λ (i : ℕ). get_or (set marks q true) i false) e
              ∙ get_or-set_same marks q true false (omega (arith, g.size))
              ∙ sym (rw (eq-eqb j q e, or-true))
          | no e ↦ get_or-set_other marks q j true false e ∙ g.mark j h ∙ sym (rw (ne_eqb j q e, or-false))
        ])

    -- one record more
    pub marked_next : q < places_for n → get_or marks q false ≡ false → Marked rs n (set marks q true) (k + 1)
    unfolding place_of
    marked_next f h =
        record {
          good = all_next (place_raw rs n) k g.good (unfold place_raw in (rw (← here, h, ← eq, lt-ltb q (places_for n) f)));
          mark = marked;
          size = length-set marks q true ∙ g.size;
        }

-- ---- the test as the definition has it
pub places_is : (rs : List Record) (words : List ℕ) (live : ℕ) → live ≡ head_word words 7 → (r : Bool)
    → r ≡ all_below (place_raw rs (pieces_on words)) live → r ≡ good_places rs words
unfolding good_places
places_is rs words live e r f = f ∙ below_every (place_raw rs (pieces_on words)) live ∙ rw e

-- as many places as the head has room for
pub places_many : (s : Shape) (words : List ℕ) → ShapeOf s words → s.places ≡ places_for (pieces_on words)
places_many s words h = h.sizes.places ∙ ap places_for h.pieces

-- ---- the record of a turn
module _ (live : ℕ) (rows : List ℕ) (k : ℕ) (l : k < live) (d : Record) (e : d ≡ row_at rows k) where
  pub turn_is : d ≡ record_at (records_in live rows) k
  turn_is = e ∙ sym (live_row live rows k l)

  pub turn_index : d.index ≡ index_at (records_in live rows) k
  turn_index = ap (λ (x : Record). x.index) turn_is

  pub turn_place : d.info_idx ≡ place_at (records_in live rows) k
  turn_place = ap (λ (x : Record). x.info_idx) turn_is

  pub turn_good : (words cells : List ℕ) (n b : ℕ) (ok : Bool) → ok ≡ record_good words cells n b d
      → ok ≡ good_at (records_in live rows) words cells n b k
  turn_good words cells n b ok f = f ∙ ap (record_good words cells n b) turn_is

-- The extents of an image: a pass over those before, and one turn of the pass over all. Assumes nothing.
use Rattle.std.specs.Prelude.{Err, Ok}
use mathlib.Core.Path.{◌≡◌, refl, sym, ap, ◌∙◌}
use mathlib.Core.Bool.{Bool, true, false, not, ◌&&◌, ◌||◌}
use mathlib.Core.List.{List, [], ◌∷◌, ◌++◌}
use mathlib.Core.Option.{Option, none, some}
use Prim.Native.Nat.{ℕ, suc, ◌+◌, ◌*◌, ◌-◌, ◌≤◌, ◌<◌}
use native.Mathlib.Omega.{arith}
use native.Mathlib.Decide.{dec_le}
use lib.Dec.{eqb, ltb, leb}
use lib.ListN.{length, take, drop}
use lib.Seq.{drop-drop}
use borrow.Author.Tests.{eq-eqb, ne_eqb, lt-ltb, le-ltb, le-leb, lt-leb}
use Rattle.model.specs.Lists.{nth, len, any, member}
use Rattle.model.specs.State.{Picker, max_extents, pieces_in, blocks_per_piece, num_extents}
use Rattle.model.specs.image.WellFormed.{extent_ok}
use Rattle.model.specs.image.Image.{body_length, extent_kind, got, fault, next, given, judged, field, obeying, read_extent, comes}
use Rattle.model.specs.image.Image.{get_extents}
use Rattle.model.proofs.image.Parts.{extents_end, extents_full, extents_more}
use Rattle.memory_layout.specs.Tables.{tabulate}
use Rattle.memory_layout.proofs.TableLaws.{tabulate-len}
use Rattle.check_pieces.proofs.Tails.{tail, tail_all, tail_next, tail_end, front_next}
use Rattle.image_bytes.specs.Put.{FieldRead}
use Rattle.image_bytes.proofs.FieldLaws.{field_inside}
use Rattle.image_records.specs.Records.{body_at, number_in}
use Rattle.image_records.proofs.FoundLaws.{NumberGot, judged_under, judged_over}
use Rattle.image_pieces.specs.Places.{Went}
use Rattle.image_pieces.proofs.NextLaws.{next-got, next-fault}
use Rattle.image_tail.specs.Extents.{extent_at, extents_before, ExtentsJudged}

-- ---- whether one of the first k is e
-- what is left of them decides
pub record Sought (start k : ℕ) (bytes : List ℕ) (e j : ℕ) : Type 0 where
  pub within : j ≤ k
  pub left : member e (tail (extent_at start bytes) j k) ≡ member e (extents_before start k bytes)

pub sought_start : (start k : ℕ) (bytes : List ℕ) (e : ℕ) → Sought start k bytes e 0
unfolding extents_before
sought_start start k bytes e = record { within = omega arith; left = ap (member e) (tail_all (extent_at start bytes) k) }

module _ (start k : ℕ) (bytes : List ℕ) (e j : ℕ) (p : Sought start k bytes e j) where
  seek : j < k → member e (tail (extent_at start bytes) j k) ≡
      (eqb e (extent_at start bytes j) || member e (tail (extent_at start bytes) (j + 1) k))
  unfolding member any
  seek h = ap (any (eqb e)) (tail_next (extent_at start bytes) j k h)

  module _ (h : j < k) (w : ℕ) (ew : FieldRead (start + 5 * j + 1) 4 bytes w) where
    pub sought_found : e ≡ w → true ≡ member e (extents_before start k bytes)
    unfolding extent_at
    sought_found q = sym (sym p.left ∙ seek h ∙ rw (eq-eqb e (extent_at start bytes j) (q ∙ ew.is)))

    pub sought_next : (e ≡ w → ⊥) → Sought start k bytes e (j + 1)
    unfolding extent_at
    sought_next q = record {
      within = omega arith;
      left = sym (seek h ∙ rw (ne_eqb e (extent_at start bytes j) (λ m. q (m ∙ sym ew.is)))) ∙ p.left;
    }

  pub sought_end : k ≤ j → false ≡ member e (extents_before start k bytes)
  unfolding member any
  sought_end h = sym (ap (any (eqb e)) (tail_end (extent_at start bytes) j k h)) ∙ p.left

-- ---- one record under its rule
given_obeys : {A : Type 0} (t : Bool) (here rest : List ℕ) (a : A) → t ≡ true → given here rest (obeying t a) ≡ got a rest
unfolding given obeying
given_obeys t here rest a e = rw e

given_breaks : {A : Type 0} (t : Bool) (here rest : List ℕ) (a : A) → t ≡ false → given here rest (obeying t a) ≡ fault here
unfolding given obeying
given_breaks t here rest a e = rw e

-- a number under a rule
unfoldable pub ruled : (ok : ℕ → Bool) (n : Option ℕ) → Option ℕ
ruled ok none = none
ruled ok (some n) = obeying (ok n) n

module _ (kind at : ℕ) (bytes : List ℕ) (ok : ℕ → Bool) where
  pub ruled_found : (x : ℕ) → NumberGot kind number_in at bytes x → ok x ≡ true
      → judged kind (λ body. ruled ok (number_in body)) (drop at bytes) ≡ got x (drop (at + suc (body_length kind)) bytes)
  unfolding ruled
  ruled_found x g e =
      judged_under kind number_in (ruled ok) (drop at bytes) x (drop (at + suc (body_length kind)) bytes) g.is
      ∙ given_obeys (ok x) (drop at bytes) (drop (at + suc (body_length kind)) bytes) x e

  pub ruled_breaks : (x : ℕ) → NumberGot kind number_in at bytes x → ok x ≡ false
      → judged kind (λ body. ruled ok (number_in body)) (drop at bytes) ≡ fault (drop at bytes)
  unfolding ruled
  ruled_breaks x g e =
      judged_under kind number_in (ruled ok) (drop at bytes) x (drop (at + suc (body_length kind)) bytes) g.is
      ∙ given_breaks (ok x) (drop at bytes) (drop (at + suc (body_length kind)) bytes) x e

  pub ruled-fault : judged kind number_in (drop at bytes) ≡ fault (drop at bytes)
      → judged kind (λ body. ruled ok (number_in body)) (drop at bytes) ≡ fault (drop at bytes)
  unfolding ruled
  ruled-fault e = judged_over kind number_in (ruled ok) (drop at bytes) refl e

-- ---- the pass
-- k extents were read, and what is left decides
pub record Reading (start limit : ℕ) (bytes : List ℕ) (at k : ℕ) : Type 0 where
  pub within : k ≤ max_extents
  pub place : at ≡ start + 5 * k
  pub room : at ≤ length bytes
  pub left : (s : Picker) → num_extents (pieces_in s) (blocks_per_piece s) ≡ limit
      → get_extents s max_extents [] (drop start bytes) ≡ get_extents s (max_extents - k) (extents_before start k bytes) (drop at bytes)

pub reading_start : (start limit : ℕ) (bytes : List ℕ) → start ≤ length bytes → Reading start limit bytes start 0
unfolding extents_before tabulate
reading_start start limit bytes h = record { within = omega arith; place = omega arith; room = h; left = λ s e. refl }

-- the number of an extent record, where it stands
number_at : (at : ℕ) (bytes : List ℕ) (x : ℕ) → NumberGot extent_kind number_in at bytes x → x ≡ field (at + 1) 4 bytes
unfolding number_in body_at body_length nth
number_at at bytes x g =
    let e : field 0 4 (take 4 (drop 1 (drop at bytes))) ≡ x = some_same g.value in
    let z : at + 1 + 0 ≡ at + 1 = omega arith in
    sym e ∙ ap (λ (l : List ℕ). field 0 4 (take 4 l)) (drop-drop 1 at bytes) ∙ field_inside (at + 1) 4 0 4 bytes (omega arith)
    ∙ ap (λ (m : ℕ). field m 4 bytes) z
  where
    some_same : {a b : ℕ} → ◌≡◌ {A = Option ℕ} (some a) (some b) → a ≡ b
    some_same e = cc

module _ (start limit : ℕ) (bytes : List ℕ) (at k : ℕ) (p : Reading start limit bytes at k) where
  -- no record of that kind comes
  pub reading_ends : comes extent_kind (drop at bytes) ≡ false → ExtentsJudged start limit bytes (Ok at)
  unfolding Went
  reading_ends e s l = record {
    value = extents_before start k bytes;
    is = p.left s l ∙ extents_end s (max_extents - k) (extents_before start k bytes) (drop at bytes) e;
    within = p.room;
  }

  -- one more than are allowed
  pub reading_full : max_extents ≤ k → comes extent_kind (drop at bytes) ≡ true → ExtentsJudged start limit bytes (Err at)
  unfolding Went
  reading_full h e s l =
      let z : max_extents - k ≡ 0 = omega arith in
      record {
        is =
            p.left s l ∙ ap (λ (m : ℕ). get_extents s m (extents_before start k bytes) (drop at bytes)) z
            ∙ extents_full s (extents_before start k bytes) (drop at bytes) e;
        within = p.room;
      }

  module _ (h : k < max_extents) (c : comes extent_kind (drop at bytes) ≡ true) where
    step_left : (s : Picker) → num_extents (pieces_in s) (blocks_per_piece s) ≡ limit
        → get_extents s max_extents [] (drop start bytes)
        ≡ next (judged extent_kind (read_extent s (extents_before start k bytes)) (drop at bytes))
        (λ e. get_extents s (max_extents - (k + 1)) (extents_before start k bytes ++ (e ∷ [])))
    step_left s l =
        let z : max_extents - k ≡ suc (max_extents - (k + 1)) = omega arith in
        p.left s l ∙ ap (λ (m : ℕ). get_extents s m (extents_before start k bytes) (drop at bytes)) z
        ∙ extents_more s (max_extents - (k + 1)) (extents_before start k bytes) (drop at bytes) c

    -- a fault of its reader
    stops : ((s : Picker) → num_extents (pieces_in s) (blocks_per_piece s) ≡ limit
        → judged extent_kind (read_extent s (extents_before start k bytes)) (drop at bytes) ≡ fault (drop at bytes)) → ExtentsJudged start
        limit bytes (Err at)
    unfolding Went
    stops f s l = record {
      is = step_left s l ∙ next-fault _ (λ e. get_extents s (max_extents - (k + 1)) (extents_before start k bytes ++ (e ∷ [])))
          (drop at bytes) (f s l);
      within = p.room;
    }

    pub reading_fault : judged extent_kind number_in (drop at bytes) ≡ fault (drop at bytes) → ExtentsJudged start limit bytes (Err at)
    unfolding read_extent ruled number_in
    reading_fault e = stops (λ s l. ruled-fault extent_kind at bytes (extent_ok s (extents_before start k bytes)) e)

    module _ (x : ℕ) (g : NumberGot extent_kind number_in at bytes x) where
      test_is : (s : Picker) → num_extents (pieces_in s) (blocks_per_piece s) ≡ limit
          → extent_ok s (extents_before start k bytes) x ≡ (ltb x limit && not (member x (extents_before start k bytes)))
      unfolding extent_ok
      test_is s l =
          let z : ltb (len (extents_before start k bytes)) max_extents ≡ true
          = unfold extents_before in (rw (tabulate-len k (extent_at start bytes)) (lt-ltb k max_extents h)) in
          rw (z, l)

      decided : (found : Bool) → (leb limit x || found) ≡ true → (ltb x limit && not found) ≡ false
      decided found e = elim (dec_le limit x) [
        | yes m ↦ rw (le-ltb x limit m)
        | no m ↦ rw (lt-ltb x limit (omega arith), (rw (lt-leb limit x (omega arith)) at e))
      ]

      passed : (found : Bool) → (leb limit x || found) ≡ false → (ltb x limit && not found) ≡ true
      passed found e = elim (dec_le limit x) [
        | yes m ↦ let z : true ≡ false = (rw (le-leb limit x m) at e) in let y : ◌≡◌ {A = ℕ} 0 1 = cc in absurd (omega arith)
        | no m ↦ rw (lt-ltb x limit (omega arith), (rw (lt-leb limit x (omega arith)) at e))
      ]

      pub reading_breaks : (found : Bool) → found ≡ member x (extents_before start k bytes) → (leb limit x || found) ≡ true
          → ExtentsJudged start limit bytes (Err at)
      unfolding read_extent ruled number_in
      reading_breaks found ef e =
          stops (λ s l.
          ruled_breaks extent_kind at bytes (extent_ok s (extents_before start k bytes)) x g
          (test_is s l ∙ ap (λ (t : Bool). ltb x limit && not t) (sym ef) ∙ decided found e))

      before_next : extents_before start k bytes ++ (x ∷ []) ≡ extents_before start (k + 1) bytes
      unfolding extents_before
      before_next =
          let e : x ≡ extent_at start bytes k = number_at at bytes x g ∙ unfold extent_at in ap (λ (m : ℕ). field m 4 bytes)
          (omega (arith, p.place)) in
          ap (λ (y : ℕ). tabulate k (extent_at start bytes) ++ (y ∷ [])) e ∙ sym (front_next (extent_at start bytes) k)

      pub reading_next : (found : Bool) → found ≡ member x (extents_before start k bytes) → (leb limit x || found) ≡ false
          → Reading start limit bytes (at + 5) (k + 1)
      unfolding read_extent ruled number_in body_length nth
      reading_next found ef e = record {
        within = omega arith;
        place = omega (arith, p.place);
        room = g.room;
        left = λ s l.
            step_left s l
            ∙ next-got _ (λ y. get_extents s (max_extents - (k + 1)) (extents_before start k bytes ++ (y ∷ []))) x (drop (at + 5) bytes)
            (ruled_found extent_kind at bytes (extent_ok s (extents_before start k bytes)) x g
            (test_is s l ∙ ap (λ (t : Bool). ltb x limit && not t) (sym ef) ∙ passed found e))
            ∙ ap (λ (b : List ℕ). get_extents s (max_extents - (k + 1)) b (drop (at + 5) bytes)) before_next;
      }

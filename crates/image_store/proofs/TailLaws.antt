-- Extents and list as they are stored: counts, words of list places, and what the words hold behind them. Assumes nothing.
use mathlib.Core.Path.{◌≡◌, ap, ap₂, ◌∙◌, subst}
use mathlib.Core.Bool.{true, false}
use mathlib.Core.List.{List}
use Prim.Native.Nat.{ℕ, ◌+◌, ◌*◌, ◌-◌, ◌/◌, ◌≤◌, ◌<◌}
use native.Mathlib.Omega.{arith}
use native.Mathlib.Decide.{ℕ_discrete}
use lib.ListN.{length, get_or, set, drop, length-set}
use lib.Seq.{get_or-set_same, get_or-set_other}
use Rattle.model.specs.Lists.{nth}
use Rattle.model.specs.State.{max_extents}
use Rattle.model.specs.image.Image.{body_length, extent_kind, starts_with, field}
use Rattle.list_entries.specs.Words.{list_word}
use Rattle.memory_layout.specs.Offsets.{cell, piece_word_at}
use Rattle.memory_layout.specs.Decode.{head_word, piece_word}
use Rattle.image_bytes.specs.Put.{FieldRead}
use Rattle.image_lay.specs.Laid.{fields_at, Laid}
use Rattle.image_lay.proofs.LaidLaws.{below_column, behind_column}
use Rattle.image_records.proofs.FrontLaws.{stands_within}
use Rattle.image_tail.specs.Extents.{extent_at}
use Rattle.image_store.specs.Given.{Extents, place_word, Places, Tail}
use Rattle.image_store.specs.Stored.{TailStored}
use Rattle.image_store.proofs.PartLaws.{extents_one}

-- ---- how many extents
pub record Counting (at : ℕ) (bytes : List ℕ) (k : ℕ) : Type 0 where
  pub most : k ≤ max_extents
  pub room : at + 5 * k ≤ length bytes
  pub come : (j : ℕ) → j < k → starts_with extent_kind (drop (at + 5 * j) bytes) ≡ true

pub counting_start : (at : ℕ) (bytes : List ℕ) → at ≤ length bytes → Counting at bytes 0
counting_start at bytes h = record { most = omega arith; room = omega arith; come = λ j l. absurd (omega arith) }

module _ (at : ℕ) (bytes : List ℕ) (k : ℕ) (p : Counting at bytes k) where
  pub counting_next : k < max_extents → starts_with extent_kind (drop (at + 5 * k) bytes) ≡ true → Counting at bytes (k + 1)
  unfolding body_length nth
  counting_next h e = record {
    most = omega arith;
    room = omega (arith, stands_within extent_kind (at + 5 * k) bytes e);
    come = λ j l. elim (ℕ_discrete j k) [ yes q ↦ rw q e | no q ↦ p.come j (omega (arith, q)) ];
  }

  pub counting_stop : starts_with extent_kind (drop (at + 5 * k) bytes) ≡ false → Extents at bytes k
  counting_stop e = record { most = p.most; room = p.room; come = p.come; stop = λ h. e }

  pub counting_full : max_extents ≤ k → Extents at bytes k
  counting_full h = record { most = p.most; room = p.room; come = p.come; stop = λ l. absurd (omega arith) }

-- ---- the word of a list place
-- the piece of a place
pub place_read : (at : ℕ) (bytes : List ℕ) (j x : ℕ) → FieldRead (at + 5 * j + 1) 4 bytes x → x ≡ extent_at at bytes j
unfolding extent_at
place_read at bytes j x f = f.is

pub word_at : (ranks : List ℕ) (at : ℕ) (bytes : List ℕ) (j x k v : ℕ) → FieldRead (at + 5 * j + 1) 4 bytes x → k ≡ x
    → v ≡ list_word (get_or ranks k 0) x → v ≡ place_word ranks at bytes j
unfolding place_word
word_at ranks at bytes j x k v f e h =
    let p = place_read at bytes j x f in
    h ∙ ap₂ (λ (l i : ℕ). list_word (get_or ranks l 0) i) (e ∙ p) p

-- ---- the list ends the bytes
pub places_of : (at n : ℕ) (bytes : List ℕ) (t : Tail at n bytes) (extents start places : ℕ) → Extents at bytes extents
    → start ≡ at + 5 * extents → places ≡ (length bytes - start) / 5 → Places start n bytes places
places_of at n bytes t extents start places x es ep =
    let e : t.extents ≡ extents = extents_one at bytes t.extents extents t.are x in
    let f : at + 5 * t.extents ≡ start = omega arith in
    let l : Places start n bytes t.places = subst (λ (k : ℕ). Places k n bytes t.places) f t.list in
    let q : t.places ≡ places = omega (arith, l.fills) in
    subst (Places start n bytes) q l

-- ---- three words of the head
module _ (l : List ℕ) (x y z : ℕ) (h : 16 ≤ length l) where
  abbrev one : List ℕ
  one = set l 6 x

  abbrev two : List ℕ
  two = set one 7 y

  abbrev all : List ℕ
  all = set two 8 z

  sets_long : length all ≡ length l
  sets_long = length-set two 8 z ∙ length-set one 7 y ∙ length-set l 6 x

  sets_six : get_or all 6 0 ≡ x
  sets_six =
      get_or-set_other two 8 6 z 0 (λ e. omega (arith, e)) ∙ get_or-set_other one 7 6 y 0 (λ e. omega (arith, e))
      ∙ get_or-set_same l 6 x 0 (omega arith)

  sets_seven : get_or all 7 0 ≡ y
  sets_seven = get_or-set_other two 8 7 z 0 (λ e. omega (arith, e)) ∙ get_or-set_same one 7 y 0 (omega (arith, length-set l 6 x))

  sets_eight : get_or all 8 0 ≡ z
  sets_eight = get_or-set_same two 8 z 0 (omega (arith, length-set one 7 y, length-set l 6 x))

  sets_other : (q : ℕ) → (q ≡ 6 → ⊥) → (q ≡ 7 → ⊥) → (q ≡ 8 → ⊥) → get_or all q 0 ≡ get_or l q 0
  sets_other q a b c = get_or-set_other two 8 q z 0 c ∙ get_or-set_other one 7 q y 0 b ∙ get_or-set_other l 6 q x 0 a

  pub tail_stored : (n at live extents places start : ℕ) (ranks bytes words a : List ℕ) → Extents at bytes extents → start
      ≡ at + 5 * extents
      → Places start n bytes places → Laid 9 extents (fields_at (at + 1) 5 4 bytes) words a
      → Laid (16 + n) places (place_word ranks start bytes) a l → x ≡ places → y ≡ live → z ≡ extents
      → TailStored n at live ranks bytes words all
  unfolding head_word piece_word piece_word_at cell fields_at extent_at
  tail_stored n at live extents places start ranks bytes words a e es p la lb ex ey ez =
      let f = subst (λ (k : ℕ). Places k n bytes places) es p in
      let g : Laid (16 + n) places (place_word ranks (at + 5 * extents) bytes) a l
      = subst (λ (k : ℕ). Laid (16 + n) places (place_word ranks k bytes) a l) es lb in
      record {
        extents = extents;
        are = e;
        places = places;
        list = f;
        long = sets_long ∙ lb.long ∙ la.long;
        list_length = sets_six ∙ ex;
        partials = sets_seven ∙ ey;
        extent_count = sets_eight ∙ ez;
        extent = λ j h.
            let m = e.most in
            let q : at + 1 + 5 * j ≡ at + 5 * j + 1 = omega arith in
            sets_other (9 + j) (λ d. omega (arith, d)) (λ d. omega (arith, d)) (λ d. omega (arith, d))
            ∙ lb.other (9 + j) (below_column _ _ _ (omega arith)) ∙ la.inside j h ∙ ap (λ (k : ℕ). field k 4 bytes) q;
        word = λ j h.
            let q : 16 + (1 * n + j) ≡ 16 + n + j = omega arith in
            sets_other (16 + (1 * n + j)) (λ d. omega (arith, d)) (λ d. omega (arith, d)) (λ d. omega (arith, d))
            ∙ ap (λ (k : ℕ). get_or l k 0) q ∙ g.inside j h;
        below = λ q h.
            sets_other q (λ d. omega (arith, d)) (λ d. omega (arith, d)) (λ d. omega (arith, d))
            ∙ lb.other q (below_column _ _ _ (omega arith)) ∙ la.other q (below_column _ _ _ (omega arith));
        pads = λ q h k.
            sets_other q (λ d. omega (arith, d)) (λ d. omega (arith, d)) (λ d. omega (arith, d))
            ∙ lb.other q (below_column _ _ _ (omega arith)) ∙ la.other q (behind_column _ _ _ (omega (arith, e.most)));
        behind = λ q h.
            sets_other q (λ d. omega (arith, d)) (λ d. omega (arith, d)) (λ d. omega (arith, d))
            ∙ lb.other q (behind_column _ _ _ (omega (arith, f.few))) ∙ la.other q (behind_column _ _ _ (omega (arith, e.most)));
      }

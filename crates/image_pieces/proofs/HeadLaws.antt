-- The head of an image by its numbers: its rule, what its reader answers, and the picker of head fields that was read. Assumes nothing.
use Rattle.std.specs.Prelude.{None, Some}
use mathlib.Core.Path.{◌≡◌, refl, sym, ap, ◌∙◌}
use mathlib.Core.Bool.{Bool, true, false, cond, ◌&&◌}
use mathlib.Core.List.{List, []}
use Prim.Native.Nat.{ℕ, ◌≤◌}
use native.Mathlib.Omega.{arith}
use lib.Dec.{eqb, leb}
use lib.ListN.{drop}
use borrow.Author.Tests.{leb-true}
use Rattle.model.specs.Lists.{nth}
use Rattle.model.specs.Bep3.{num_pieces}
use Rattle.model.specs.State.{Picker, dirty, fresh, max_peers, max_pieces, max_piece_size, is_dirty, valid_geometry}
use Rattle.model.specs.image.WellFormed.{head_ok}
use Rattle.model.specs.image.Image.{body_length, head_kind, Got, got, fault, starts_with, judged, field, obeying, head_of, read_head}
use Rattle.model.proofs.image.Codec.{obeying_back}
use Rattle.model.proofs.base.Truths.{both_true}
use Rattle.image_records.specs.Records.{body_at, Body}
use Rattle.image_records.proofs.FrontLaws.{judged_none, judged_found, judged-fault, judged_cases}
use Rattle.image_records.proofs.RecordLaws.{obeys, breaks}
use Rattle.image_pieces.specs.declared.head.Head.{Head}
use Rattle.image_pieces.specs.Heads.{head_test, head_numbers, head_step, head_picker, Headed}

-- ---- the tests in another order
pub head_test_lem : (total size seeds cursor reverse flag n : ℕ) (valid : Bool) → n ≡ num_pieces total size → valid ≡ valid_geometry total size
    → (leb flag 1 && valid && leb seeds max_peers && leb cursor n && leb reverse n) ≡ head_test total size seeds cursor reverse flag
unfolding head_test
head_test_lem total size seeds cursor reverse flag n valid en ev =
    rw (en, ev) (go (leb flag 1) (valid_geometry total size) (leb seeds max_peers) (leb cursor (num_pieces total size))
    (leb reverse (num_pieces total size)))
  where
    go : (a b c d e : Bool) → (a && b && c && d && e) ≡ (a && (b && (c && (d && e))))
    go true true true true e = refl
    go true true true false e = refl
    go true true false d e = refl
    go true false c d e = refl
    go false b c d e = refl

-- ---- what its reader answers
flag_dirty : (t : Bool) → is_dirty (cond t dirty (fresh [])) ≡ t
unfolding is_dirty
flag_dirty true = refl
flag_dirty false = refl

module _ (bytes : List ℕ) where
  pub head_none : starts_with head_kind (drop 0 bytes) ≡ false → None ≡ head_step (judged head_kind read_head bytes)
  unfolding head_step
  head_none e = sym (ap head_step (judged_none head_kind read_head bytes e))

  module _ (e : starts_with head_kind (drop 0 bytes) ≡ true) (body : List ℕ) (b : Body head_kind 0 bytes body)
      (total size seeds cursor reverse flag : ℕ) (et : total ≡ field 0 8 body) (ez : size ≡ field 8 4 body) (es : seeds ≡ field 12 2 body)
      (ec : cursor ≡ field 14 4 body) (er : reverse ≡ field 18 4 body) (ef : flag ≡ field 22 1 body) where
    head_read : read_head body ≡ obeying (head_test total size seeds cursor reverse flag) (head_of body)
    unfolding read_head head_test head_ok head_of
    head_read = rw (et, ez, es, ec, er, ef)

    pub head_fault : head_test total size seeds cursor reverse flag ≡ false → None ≡ head_step (judged head_kind read_head bytes)
    unfolding head_step
    head_fault t = sym (ap head_step (judged-fault head_kind read_head 0 bytes e body b (head_read ∙ breaks _ (head_of body) t)))

    head_numbers_lem : head_numbers (head_of body) ≡ record {
      total = total;
      size = size;
      seeds = seeds;
      cursor = cursor;
      reverse_cursor =
          reverse;
      dirty = eqb flag 1;
    }
    unfolding head_numbers head_of
    head_numbers_lem = rw (← et, ← ez, ← es, ← ec, ← er, ← ef, flag_dirty (eqb flag 1))

    pub head_found : head_test total size seeds cursor reverse flag ≡ true
        → Some (record { total = total; size = size; seeds = seeds; cursor = cursor; reverse_cursor = reverse; dirty = eqb flag 1 })
        ≡ head_step (judged head_kind read_head bytes)
    unfolding head_step
    head_found t =
        sym
        (ap head_step (judged_found head_kind read_head 0 bytes e body b (head_of body) (head_read ∙ obeys _ (head_of body) t))
        ∙ ap Some head_numbers_lem)

-- ---- for a caller
-- the head is the picker of its numbers
bare_head : (body : List ℕ) → head_picker (head_numbers (head_of body)) ≡ head_of body
unfolding head_picker head_numbers head_of
bare_head body = rw (flag_dirty (eqb (field 22 1 body) 1))

-- read, it stands in front, and the rest starts at 24
pub record HeadGot (bytes : List ℕ) (x : Head) : Type 0 where
  pub is : judged head_kind read_head bytes ≡ got (head_picker x) (drop 24 bytes)
  pub headed : Headed x bytes

found_numbers : (s : Picker) (rest : List ℕ) (g : Got Picker) (x : Head) → g ≡ got s rest → Some x ≡ head_step g → head_numbers s ≡ x
unfolding head_step
found_numbers s rest g x e f = let z : Some x ≡ Some (head_numbers s) = f ∙ ap head_step e in cc

never_found : {X : Type 0} (g : Got Picker) (rest : List ℕ) (x : Head) → g ≡ fault rest → Some x ≡ head_step g → X
unfolding head_step
never_found g rest x e f =
    let z : Some x ≡ None = f ∙ ap head_step e in
    let y : ◌≡◌ {A = ℕ} 0 1 = cc in
    absurd (omega arith)

pub head_got : (bytes : List ℕ) (x : Head) → Some x ≡ head_step (judged head_kind read_head bytes) → HeadGot bytes x
unfolding read_head body_length nth
head_got bytes x f =
    judged_cases head_kind read_head 0 bytes (λ e. never_found (judged head_kind read_head bytes) (drop 0 bytes) x e f)
    (λ s room r e.
    obeying_back _ (head_of (body_at head_kind 0 bytes)) s r λ t q.
    let n : head_numbers s ≡ x = found_numbers s _ (judged head_kind read_head bytes) x e f in
    let p : head_picker x ≡ s = ap head_picker (sym n) ∙ ap (λ (y : Picker). head_picker (head_numbers y)) (sym q) ∙ bare_head
    (body_at head_kind 0 bytes) ∙ q in
    record {
      is = e ∙ ap (λ (y : Picker). got y (drop 24 bytes)) (sym p);
      headed = record {
        ok = ap head_ok (p ∙ sym q) ∙ (both_true (leb (field 22 1 (body_at head_kind 0 bytes)) 1) (head_ok (head_of (body_at head_kind 0 bytes)))
            t).1;
        room = room;
      };
    })

pub head_bad : (bytes : List ℕ) → None ≡ head_step (judged head_kind read_head bytes) → judged head_kind read_head bytes ≡ fault (drop 0 bytes)
unfolding head_step
head_bad bytes f =
    judged_cases head_kind read_head 0 bytes (λ e. e)
    (λ s room r e.
    let z : None ≡ Some (head_numbers s) = f ∙ ap head_step e in
    let y : ◌≡◌ {A = ℕ} 0 1 = cc in
    absurd (omega arith))

-- what its rule says
module _ (x : Head) (ok : head_ok (head_picker x) ≡ true) where
  pub head_valid : valid_geometry x.total x.size ≡ true
  unfolding head_ok head_picker
  head_valid = (both_true (valid_geometry x.total x.size) _ ok).0

  pub head_seeds : x.seeds ≤ max_peers
  unfolding head_ok head_picker
  head_seeds = leb-true x.seeds max_peers (both_true (leb x.seeds max_peers) _
      (both_true (valid_geometry x.total x.size) _ ok).1).0

  pub head_pieces : num_pieces x.total x.size ≤ max_pieces
  unfolding valid_geometry
  head_pieces =
      let a = both_true (leb 1 x.total) _ head_valid in
      let b = both_true (leb 1 x.size) _ a.1 in
      leb-true (num_pieces x.total x.size) max_pieces (both_true (leb x.size max_piece_size) _ b.1).1

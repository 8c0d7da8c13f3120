-- A record at a place of the bytes: when it stands there, what its reader finds, and where what is left starts. Assumes nothing.
use mathlib.Core.Path.{◌≡◌, refl, sym, ap, ◌∙◌}
use mathlib.Core.Bool.{true, false, ◌&&◌, and-true}
use mathlib.Core.List.{List, [], ◌∷◌}
use mathlib.Core.Option.{Option, none, some}
use Prim.Native.Nat.{ℕ, zero, suc, ◌+◌, ◌-◌, ◌≤◌, ◌<◌}
use native.Mathlib.Omega.{arith}
use native.Mathlib.Decide.{dec_lt}
use lib.Dec.{eqb, ltb, leb}
use lib.ListN.{length, take, drop, get_or, length-drop, drop_of_length-le}
use lib.Seq.{drop-cons, drop-drop, length-take-le}
use borrow.Author.Tests.{eq-eqb, ne_eqb, lt-ltb, le-ltb, le-leb, lt-leb, leb-true}
use Rattle.model.specs.Lists.{len, every}
use Rattle.model.specs.image.Image.{body_length, got, fault, starts_with, given, judged, comes, field}
use Rattle.model.proofs.base.Truths.{both_true, by_test}
use Rattle.image_bytes.specs.Put.{FieldRead}
use Rattle.image_bytes.proofs.FieldLaws.{field_inside}
use Rattle.image_records.specs.Records.{body_at, Body}

-- ---- bytes
-- numbers of 8 bits, by place
abbrev pub Small : (bytes : List ℕ) → Type 0
Small bytes = (i : ℕ) → get_or bytes i 0 < 256

every_small : (bs : List ℕ) → Small bs → every (λ c. ltb c 256) bs ≡ true
unfolding every
every_small [] h = refl
every_small (b ∷ bs) h = rw (lt-ltb b 256 (h 0)) (every_small bs (λ i. h (suc i)))

small_drop : (n : ℕ) (bs : List ℕ) → Small bs → Small (drop n bs)
small_drop zero bs h = h
small_drop (suc n) [] h = h
small_drop (suc n) (b ∷ bs) h = small_drop n bs (λ i. h (suc i))

every_front : (n : ℕ) (bs : List ℕ) → Small bs → every (λ c. ltb c 256) (take n bs) ≡ true
unfolding every
every_front zero bs h = refl
every_front (suc n) [] h = refl
every_front (suc n) (b ∷ bs) h = rw (lt-ltb b 256 (h 0)) (every_front n bs (λ i. h (suc i)))

-- ---- what comes
module _ (kind at : ℕ) (bytes : List ℕ) where
  pub comes_none : length bytes ≤ at → false ≡ comes kind (drop at bytes)
  unfolding comes
  comes_none h = ap (comes kind) (sym (drop_of_length-le bytes {i = at} h))

  pub comes_one : at < length bytes → eqb (get_or bytes at 0) kind ≡ comes kind (drop at bytes)
  unfolding comes
  comes_one h = ap (comes kind) (sym (drop-cons bytes at 0 h))

  -- ---- a whole record
  pub starts_none : length bytes ≤ at → false ≡ starts_with kind (drop at bytes)
  unfolding starts_with
  starts_none h = ap (starts_with kind) (sym (drop_of_length-le bytes {i = at} h))

  module _ (h : at < length bytes) where
    starts_is : starts_with kind (drop at bytes) ≡ (eqb (get_or bytes at 0) kind &&
        (leb (body_length kind) (length (drop (suc at) bytes)) && every (λ c. ltb c 256) (take (body_length kind) (drop (suc at) bytes))))
    unfolding starts_with len
    starts_is = ap (starts_with kind) (drop-cons bytes at 0 h)

    pub starts_other : (get_or bytes at 0 ≡ kind → ⊥) → false ≡ starts_with kind (drop at bytes)
    starts_other n = sym (starts_is ∙ rw (ne_eqb (get_or bytes at 0) kind n))

    pub starts_here : Small bytes → get_or bytes at 0 ≡ kind → ltb (body_length kind) (length bytes - at) ≡ starts_with kind (drop at bytes)
    starts_here v e =
        let l = length-drop (suc at) bytes in
        sym
        (starts_is
        ∙ rw (
          eq-eqb (get_or bytes at 0) kind e,
          every_front (body_length kind) (drop (suc at) bytes) (small_drop (suc at) bytes v),
          and-true (leb (body_length kind) (length (drop (suc at) bytes))),
        )
        (elim (dec_lt (body_length kind) (length bytes - at)) [
          | yes m ↦ le-leb (body_length kind) (length (drop (suc at) bytes)) (omega arith) ∙ sym
              (lt-ltb (body_length kind) (length bytes - at) m)
          | no m ↦ lt-leb (body_length kind) (length (drop (suc at) bytes)) (omega arith) ∙ sym
              (le-ltb (body_length kind) (length bytes - at) (omega arith))
        ]))

  -- where a record stands, the bytes have it
  pub stands_within : starts_with kind (drop at bytes) ≡ true → at + 1 + body_length kind ≤ length bytes
  stands_within e = elim (dec_lt at (length bytes)) [
    | no m ↦ absurd (no_both (starts_none (omega arith) ∙ e))
    | yes m ↦
        let f = both_true (eqb (get_or bytes at 0) kind) _ (sym (starts_is m) ∙ e) in
        let g = both_true (leb (body_length kind) (length (drop (suc at) bytes))) _ f.1 in
        omega (arith, leb-true (body_length kind) (length (drop (suc at) bytes)) g.0, length-drop (suc at) bytes)
  ]
    where
      no_both : false ≡ true → ⊥
      no_both z = let y : ◌≡◌ {A = ℕ} 0 1 = cc in omega arith

  pub body_is : starts_with kind (drop at bytes) ≡ true → (start end : ℕ) → start ≡ at + 1 → end ≡ start + body_length kind
      → Body kind at bytes (take (end - start) (drop start bytes))
  unfolding body_at
  body_is e start end es ee =
      let w = stands_within e in
      let m : end - start ≡ body_length kind = omega arith in
      let d : drop start bytes ≡ drop 1 (drop at bytes) = ap (λ (k : ℕ). drop k bytes) es ∙ sym (drop-drop 1 at bytes) in
      record {
        is = rw (m, d);
        long = rw m (length-take-le (body_length kind) (drop start bytes) (omega (arith, length-drop start bytes)));
      }

  pub body_at_lem : starts_with kind (drop at bytes) ≡ true → Body kind at bytes (body_at kind at bytes)
  unfolding body_at
  body_at_lem e = record {
    is = refl;
    long = length-take-le (body_length kind) (drop 1 (drop at bytes))
        (omega (arith, stands_within e, length-drop 1 (drop at bytes), length-drop at bytes));
  }

-- ---- a number in its body
pub body_field : (kind at k w : ℕ) (bytes : List ℕ) → k + w ≤ body_length kind
    → field k w (body_at kind at bytes) ≡ field (at + 1 + k) w bytes
unfolding body_at
body_field kind at k w bytes h =
    ap (λ (l : List ℕ). field k w (take (body_length kind) l)) (drop-drop 1 at bytes) ∙ field_inside (at + 1) (body_length kind) k w bytes h

-- one that was read in the bytes is the body's
pub body_read : (kind at k w place : ℕ) (bytes : List ℕ) (r : ℕ) → place ≡ at + 1 + k → k + w ≤ body_length kind
    → FieldRead place w bytes r → r ≡ field k w (body_at kind at bytes)
body_read kind at k w place bytes r e h f = f.is ∙ ap (λ (x : ℕ). field x w bytes) e ∙ sym (body_field kind at k w bytes h)

-- ---- what its reader finds
module _ {A : Type 0} (kind : ℕ) (read : List ℕ → Option A) where
  judged-given : (bs : List ℕ) → starts_with kind bs ≡ true
      → judged kind read bs ≡ given bs (drop (suc (body_length kind)) bs) (read (take (body_length kind) (drop 1 bs)))
  unfolding judged
  judged-given bs e = rw (e, judged)

  -- nothing where no record stands
  pub judged_none : (bs : List ℕ) → starts_with kind bs ≡ false → judged kind read bs ≡ fault bs
  unfolding judged
  judged_none bs e = rw (e, judged)

  module _ (at : ℕ) (bytes : List ℕ) (e : starts_with kind (drop at bytes) ≡ true) (body : List ℕ) (b : Body kind at bytes body) where
    judged-body : judged kind read (drop at bytes) ≡ given (drop at bytes) (drop (at + suc (body_length kind)) bytes) (read body)
    unfolding body_at
    judged-body =
        judged-given (drop at bytes) e
        ∙ ap (λ (l : List ℕ). given (drop at bytes) l (read (take (body_length kind) (drop 1 (drop at bytes)))))
        (drop-drop (suc (body_length kind)) at bytes)
        ∙ ap (λ (l : List ℕ). given (drop at bytes) (drop (at + suc (body_length kind)) bytes) (read l)) (sym b.is)

    -- a value, where its rule holds
    pub judged_found : (a : A) → read body ≡ some a → judged kind read (drop at bytes) ≡ got a (drop (at + suc (body_length kind)) bytes)
    unfolding given
    judged_found a f = judged-body ∙ ap (given (drop at bytes) (drop (at + suc (body_length kind)) bytes)) f

    -- and none, where it does not
    pub judged-fault : read body ≡ none → judged kind read (drop at bytes) ≡ fault (drop at bytes)
    unfolding given
    judged-fault f = judged-body ∙ ap (given (drop at bytes) (drop (at + suc (body_length kind)) bytes)) f

  -- either way, for a caller: a fault where the record starts, or a value and the place behind it
  module _ {X : Type 0} (at : ℕ) (bytes : List ℕ) (bad : judged kind read (drop at bytes) ≡ fault (drop at bytes) → X)
      (good : (a : A) → at + suc (body_length kind) ≤ length bytes → read (body_at kind at bytes) ≡ some a
      → judged kind read (drop at bytes) ≡ got a (drop (at + suc (body_length kind)) bytes) → X) where
    by_value : starts_with kind (drop at bytes) ≡ true → Body kind at bytes (body_at kind at bytes) → (o : Option A)
        → read (body_at kind at bytes) ≡ o → X
    by_value e b none f = bad (judged-fault at bytes e (body_at kind at bytes) b f)
    by_value e b (some a) f =
        good a (omega (arith, stands_within kind at bytes e)) f (judged_found at bytes e (body_at kind at bytes) b a f)

    pub judged_cases : X
    judged_cases =
        by_test (starts_with kind (drop at bytes)) (λ e. by_value e (body_at_lem kind at bytes e) (read (body_at kind at bytes)) refl)
        (λ e. bad (judged_none (drop at bytes) e))

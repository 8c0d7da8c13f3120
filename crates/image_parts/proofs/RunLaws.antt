-- Records put one behind another: what stands after a turn, how long it is, and that there is room for the next. Assumes nothing.
use mathlib.Core.Path.{◌≡◌, refl, sym, ap, ◌∙◌, subst}
use mathlib.Core.List.{List, [], ◌∷◌, ◌++◌, append_assoc, append-nil}
use Prim.Native.Nat.{ℕ, zero, suc, ◌+◌, ◌-◌, ◌*◌, ◌≤◌, ◌<◌}
use native.Mathlib.Numerals.{add-one}
use native.Mathlib.Omega.{arith}
use lib.ListN.{length, length-append}
use Rattle.model.specs.Lists.{concat_map}
use Rattle.memory_layout.specs.Tables.{tabulate}
use Rattle.memory_layout.proofs.TableLaws.{tabulate_more}
use Rattle.image_bytes.specs.Put.{Put}
use Rattle.image_bytes.proofs.PutLaws.{put_none, put_then}
use Rattle.image_parts.specs.Parts.{Appended}

-- a part behind a part
pub appended_then : (at mid next : ℕ) (xs ys a b c : List ℕ) → Appended at xs a b mid → Appended mid ys b c next
    → Appended at (xs ++ ys) a c next
appended_then at mid next xs ys a b c p q = record {
  put = put_then at mid xs ys a b c p.put p.place q.put;
  place = omega (arith, p.place, q.place, length-append xs ys);
}

-- the same bytes under another name
pub appended_as : (at next : ℕ) (xs ys a b : List ℕ) → Appended at xs a b next → xs ≡ ys → Appended at ys a b next
appended_as at next xs ys a b p e = subst (λ (l : List ℕ). Appended at l a b next) e p

concat_append : {A : Type 0} (g : A → List ℕ) (xs ys : List A) → concat_map g (xs ++ ys) ≡ concat_map g xs ++ concat_map g ys
unfolding concat_map
concat_append g [] ys = refl
concat_append g (x ∷ xs) ys =
    ap (λ (l : List ℕ). g x ++ l) (concat_append g xs ys) ∙ sym (append_assoc (g x) (concat_map g xs) (concat_map g ys))

module _ {A : Type 0} (g : A → List ℕ) (f : ℕ → A) where
  -- the bytes of the first records
  abbrev pub run_of : ℕ → List ℕ
  run_of i = concat_map g (tabulate i f)

  run_more : (i : ℕ) → run_of (suc i) ≡ run_of i ++ g (f i)
  unfolding concat_map
  run_more i =
      ap (concat_map g) (tabulate_more i f)
      ∙ concat_append g (tabulate i f) (f i ∷ [])
      ∙ ap (λ (l : List ℕ). run_of i ++ l) (append-nil (g (f i)))

  -- before the first
  pub run_start : (at : ℕ) (l : List ℕ) → at ≤ length l → Appended at (run_of 0) l l at
  unfolding concat_map tabulate
  run_start at l h = record { put = put_none at l h; place = omega arith }

  -- one more
  pub run_next : (at i here next : ℕ) (a b c : List ℕ) → Appended at (run_of i) a b here → Appended here (g (f i)) b c next
      → Appended at (run_of (i + 1)) a c next
  run_next at i here next a b c p q =
      appended_as at next _ _ a c (appended_then at here next (run_of i) (g (f i)) a b c p q)
      (sym (run_more i) ∙ ap run_of (sym (add-one i)))

  -- the last
  pub run_end : (at i n next : ℕ) (a b : List ℕ) → Appended at (run_of i) a b next → i ≡ n → Appended at (run_of n) a b next
  run_end at i n next a b p e = appended_as at next _ _ a b p (ap run_of e)

  -- ---- room
  -- records of one length
  pub run_long : (w i : ℕ) → ((k : ℕ) → length (g (f k)) ≡ w) → length (run_of i) ≡ w * i
  unfolding concat_map tabulate
  run_long w zero h = omega arith
  run_long w (suc i) h =
      ap length (run_more i) ∙ (let e = length-append (run_of i) (g (f i)) in omega (arith, h i, run_long w i h))

  run_rises : (i d : ℕ) → length (run_of i) ≤ length (run_of (d + i))
  run_rises i zero = let e : zero + i ≡ i = omega arith in rw e (omega arith)
  run_rises i (suc d) =
      let e : suc d + i ≡ suc (d + i) = omega arith in
      rw (e, run_more (d + i)) (omega (arith, length-append (run_of (d + i)) (g (f (d + i))), run_rises i d))

  -- the next record lies within the whole run
  pub run_room : (i n : ℕ) → i < n → length (run_of i) + length (g (f i)) ≤ length (run_of n)
  run_room i n h =
      let e : n - suc i + suc i ≡ n = omega arith in
      let r : length (run_of (suc i)) ≤ length (run_of n) = subst (λ (k : ℕ). length (run_of (suc i)) ≤ length (run_of k)) e (run_rises (suc i) (n - suc i)) in
      omega (arith, ap length (run_more i) ∙ length-append (run_of i) (g (f i)))

  -- one more, of w bytes
  pub run_step : (w at i here next : ℕ) (a b c : List ℕ) → length (g (f i)) ≡ w → Appended at (run_of i) a b here → Put here (g (f i)) b c
      → next ≡ here + w → Appended at (run_of (i + 1)) a c next
  run_step w at i here next a b c l p q e = run_next at i here next a b c p (record { put = q; place = omega arith })

  -- there is room for it among n
  pub run_fits : (w at i n here : ℕ) (a b : List ℕ) → ((k : ℕ) → length (g (f k)) ≡ w) → Appended at (run_of i) a b here → i < n
      → at + w * n ≤ length a → here + w ≤ length b
  run_fits w at i n here a b l p h r =
      let e = run_room i n h in
      let m = run_long w n l in
      omega (arith, p.place, p.put.long, l i)

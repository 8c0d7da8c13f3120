-- The pass over the pieces: what is counted and what is left give the whole. Assumes nothing.
use mathlib.Core.Path.{◌≡◌, refl, ap, ap₂, ◌∙◌}
use mathlib.Core.Bool.{Bool, true, false, cond}
use mathlib.Core.List.{List, [], ◌∷◌}
use Prim.Native.Nat.{ℕ, suc, ◌+◌, ◌-◌, ◌*◌, ◌≤◌, ◌<◌}
use native.Mathlib.Nat.{zero-add}
use native.Mathlib.Omega.{arith}
use Rattle.model.specs.Lists.{bit, filter, from, range, len, each}
use Rattle.model.specs.State.{Picker, piece_at, pieces_in}
use Rattle.model.specs.ask.Questions.{pieces_where, count_where, pad_bytes_where, counted, sum}
use Rattle.model.proofs.base.Counts.{bit_le}
use Rattle.ask_totals.specs.declared.count.PieceCount.{PieceCount}
use Rattle.ask_totals.specs.Totals.{Counted, count_reply}

-- ---- a number that counts, or not
pub counts : (t : Bool) (x : ℕ) → t ≡ true → x ≡ bit t * x
counts t x e = rw e (omega arith)

pub counts_not : (t : Bool) (x : ℕ) → t ≡ false → 0 ≡ bit t * x
counts_not t x e = rw e (omega arith)

-- at most itself
pub bit_less : (x : Bool) (w : ℕ) → bit x * w ≤ w
bit_less true w = omega arith
bit_less false w = omega arith

-- ---- one element more
module _ {A : Type 0} (t : A → Bool) (x : A) (xs : List A) where
  -- what they are of a list
  pub size_more : len (filter t (x ∷ xs)) ≡ bit (t x) * 1 + len (filter t xs)
  unfolding filter len
  size_more = go (t x)
    where
      go : (p : Bool) → len (cond p (x ∷ filter t xs) (filter t xs)) ≡ bit p * 1 + len (filter t xs)
      go true = omega arith
      go false = omega arith

  sum_more : (f : A → ℕ) → sum (each f (filter t (x ∷ xs))) ≡ bit (t x) * f x + sum (each f (filter t xs))
  unfolding filter each sum
  sum_more f = go (t x)
    where
      go : (p : Bool) → sum (each f (cond p (x ∷ filter t xs) (filter t xs))) ≡ bit p * f x + sum (each f (filter t xs))
      go true = omega arith
      go false = omega arith

range_next : (i n : ℕ) → i < n → range i n ≡ i ∷ range (i + 1) n
unfolding range from
range_next i n h =
    let e : n - i ≡ suc (n - (i + 1)) = omega arith in
    let f : suc i ≡ i + 1 = omega arith in
    ap (from i) e ∙ ap (λ (k : ℕ). i ∷ from k (n - (i + 1))) f

range_end : (i n : ℕ) → n ≤ i → range i n ≡ []
unfolding range from
range_end i n h = let e : n - i ≡ 0 = omega arith in ap (from i) e

-- ---- the pass
module _ (d : Picker) (t : ℕ → Bool) where
  -- the first i pieces are counted
  pub record Counting (i num pads : ℕ) (last : Bool) : Type 0 where
    pub within : i ≤ pieces_in d
    pub few : num ≤ i
    pub small : pads ≤ i * 4194304
    pub pieces : num + len (filter t (range i (pieces_in d))) ≡ count_where d t
    pub pad_bytes : pads + sum (each (λ j. (piece_at d j).pad_bytes) (filter t (range i (pieces_in d)))) ≡ pad_bytes_where d t
    pub latest : (j : ℕ) → i ≡ suc j → last ≡ t j

  pub counting_start : Counting 0 0 0 false
  unfolding count_where pad_bytes_where pieces_where range
  counting_start =
      let e : pieces_in d - 0 ≡ pieces_in d = omega arith in
      record {
        within = omega arith;
        few = omega arith;
        small = omega arith;
        pieces = zero-add _ ∙ ap (λ (n : ℕ). len (filter t (from 0 n))) e;
        pad_bytes = zero-add _ ∙ ap (λ (n : ℕ). sum (each (λ j. (piece_at d j).pad_bytes) (filter t (from 0 n)))) e;
        latest = λ j o. absurd (omega arith);
      }

  -- one piece more
  pub counting_next : (i num pads : ℕ) (last : Bool) → Counting i num pads last → i < pieces_in d → (x : Bool) → x ≡ t i → (w : ℕ)
      → w ≡ (piece_at d i).pad_bytes → w ≤ 4194304
      → (a b : ℕ) → a ≡ bit x * 1 → b ≡ bit x * w → Counting (i + 1) (num + a) (pads + b) x
  counting_next i num pads last g h x e w ew l a b ea eb =
      let n = pieces_in d in
      let f : ℕ → ℕ = λ j. (piece_at d j).pad_bytes in
      let q : bit x * 1 ≡ bit (t i) * 1 = ap (λ (y : Bool). bit y * 1) e in
      let u : bit x * w ≡ bit (t i) * f i = ap₂ (λ (y : Bool) (z : ℕ). bit y * z) e ew in
      let p = ap (λ (xs : List ℕ). len (filter t xs)) (range_next i n h) ∙ size_more t i (range (i + 1) n) in
      let o = ap (λ (xs : List ℕ). sum (each f (filter t xs))) (range_next i n h) ∙ sum_more t i (range (i + 1) n) f in
      record {
        within = omega arith;
        few = omega (arith, g.few, bit_le x);
        small = omega (arith, g.small, bit_less x w);
        pieces = omega (arith, g.pieces);
        pad_bytes = omega (arith, g.pad_bytes);
        latest = λ j k. e ∙ ap t (omega arith);
      }

  -- all pieces
  pub counting_end : (i : ℕ) (r : PieceCount) → Counting i r.num_pieces r.pad_bytes r.last_piece → pieces_in d ≤ i
      → 1 ≤ pieces_in d → Counted d t r
  unfolding len sum each filter
  counting_end i r g h some =
      let n = pieces_in d in
      let f : ℕ → ℕ = λ j. (piece_at d j).pad_bytes in
      let p = ap (λ (xs : List ℕ). len (filter t xs)) (range_end i n h) in
      let o = ap (λ (xs : List ℕ). sum (each f (filter t xs))) (range_end i n h) in
      let e : i ≡ suc (n - 1) = omega (arith, g.within) in
      record {
        pieces = omega (arith, g.pieces);
        pad_bytes = omega (arith, g.pad_bytes);
        last = g.latest (n - 1) e;
      }

-- the count told
pub count_reply_lem : (d : Picker) (t : ℕ → Bool) (r : PieceCount) → Counted d t r → count_reply r ≡ counted d t
unfolding count_reply counted
count_reply_lem d t r g = rw (g.pieces, g.pad_bytes, g.last) refl

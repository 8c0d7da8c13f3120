-- The places of a queue: one more, the partials that stand at them, and that they rise. Assumes nothing.
use mathlib.Core.Path.{◌≡◌, refl, sym, ap, ap₂, ◌∙◌}
use mathlib.Core.Bool.{Bool, true, false, cond}
use mathlib.Core.List.{List, [], ◌∷◌, ◌++◌, append-nil}
use Prim.Native.Nat.{ℕ, zero, suc, ◌+◌, ◌≤◌, ◌<◌}
use native.Mathlib.Nat.{not-suc-le-zero, le_of_suc-le-suc}
use native.Mathlib.Numerals.{add-one}
use native.Mathlib.Omega.{arith}
use Rattle.types.specs.declared.queue.DownloadQueue.{DownloadQueue}
use Rattle.types.specs.Queue.{unreverse}
use Rattle.model.specs.Lists.{nth, each, filter, from, len}
use Rattle.model.specs.State.{DownloadingPiece, Picker, same_queue, piece_at}
use Rattle.model.specs.pick.Pick.{no_partial}
use Rattle.model.specs.change.Partials.{in_queue}
use Rattle.model.proofs.base.Counts.{length-from}
use Rattle.model.proofs.sound.PartialLaws.{size_filter_le}
use Rattle.memory_layout.specs.Changes.{partial_in}
use Rattle.memory_queues.specs.Queues.{queue_in, places_below, places_in}

-- ---- one more
module _ {A : Type 0} (t : A → Bool) where
  filter_append : (l m : List A) → filter t (l ++ m) ≡ filter t l ++ filter t m
  unfolding filter
  filter_append [] m = refl
  filter_append (x ∷ xs) m = go (t x) (filter_append xs m)
    where
      go : (p : Bool) → filter t (xs ++ m) ≡ filter t xs ++ filter t m
          → cond p (x ∷ filter t (xs ++ m)) (filter t (xs ++ m)) ≡ cond p (x ∷ filter t xs) (filter t xs) ++ filter t m
      go true e = ap (λ (l : List A). x ∷ l) e
      go false e = e

  filter_one : (x : A) → filter t (x ∷ []) ≡ cond (t x) (x ∷ []) []
  unfolding filter
  filter_one x = refl

from_more : (k n : ℕ) → from k (suc n) ≡ from k n ++ ((k + n) ∷ [])
unfolding from
from_more k zero = ap (λ (j : ℕ). j ∷ []) (omega arith)
from_more k (suc n) =
    ap (λ (l : List ℕ). k ∷ l) (from_more (suc k) n ∙ ap (λ (j : ℕ). from (suc k) n ++ (j ∷ [])) (omega arith))

module _ (f : ℕ → DownloadQueue) (q : DownloadQueue) (n : ℕ) where
  below_more : places_below f q (n + 1) ≡ places_below f q n ++ cond (same_queue (f n) q) (n ∷ []) []
  unfolding places_below
  below_more =
      let t : ℕ → Bool = λ k. same_queue (f k) q in
      ap (λ (m : ℕ). filter t (from 0 m)) (add-one n)
      ∙ ap (filter t) (from_more 0 n ∙ ap (λ (j : ℕ). from 0 n ++ (j ∷ [])) (omega arith))
      ∙ filter_append t (from 0 n) (n ∷ []) ∙ ap (λ (l : List ℕ). filter t (from 0 n) ++ l) (filter_one t n)

  -- the next one is in the queue
  pub below_in : same_queue (f n) q ≡ true → places_below f q (n + 1) ≡ places_below f q n ++ (n ∷ [])
  below_in e = below_more ∙ ap (λ (p : Bool). places_below f q n ++ cond p (n ∷ []) []) e

  -- or in another
  pub below_out : same_queue (f n) q ≡ false → places_below f q (n + 1) ≡ places_below f q n
  below_out e = below_more ∙ ap (λ (p : Bool). places_below f q n ++ cond p (n ∷ []) []) e ∙ append-nil (places_below f q n)

  pub below_few : len (places_below f q n) ≤ n
  unfolding places_below len
  below_few = omega (arith, size_filter_le (λ k. same_queue (f k) q) (from 0 n), length-from 0 n)

pub below_none : (f : ℕ → DownloadQueue) (q : DownloadQueue) → places_below f q 0 ≡ []
unfolding places_below filter from
below_none f q = refl

-- the same queues, the same places
pub below_same : (f g : ℕ → DownloadQueue) (q : DownloadQueue) (n : ℕ) → ((k : ℕ) → k < n → f k ≡ g k)
    → places_below f q n ≡ places_below g q n
below_same f g q zero h = below_none f q ∙ sym (below_none g q)
below_same f g q (suc n) h =
    ap (places_below f q) (sym (add-one n)) ∙ below_more f q n
    ∙ ap₂ (λ (l : List ℕ) (x : DownloadQueue). l ++ cond (same_queue x q) (n ∷ []) []) (below_same f g q n (λ k l. h k (omega arith)))
    (h n (omega arith)) ∙ sym (below_more g q n) ∙ ap (places_below g q) (add-one n)

-- ---- the partials of a queue
module _ {A B : Type 0} (f : A → B) (t : B → Bool) where
  each-filter : (l : List A) → each f (filter (λ x. t (f x)) l) ≡ filter t (each f l)
  unfolding each filter
  each-filter [] = refl
  each-filter (x ∷ xs) = go (t (f x)) (each-filter xs)
    where
      go : (p : Bool) → each f (filter (λ y. t (f y)) xs) ≡ filter t (each f xs)
          → each f (cond p (x ∷ filter (λ y. t (f y)) xs) (filter (λ y. t (f y)) xs))
          ≡ cond p (f x ∷ filter t (each f xs)) (filter t (each f xs))
      go true e = ap (λ (l : List B). f x ∷ l) e
      go false e = e

each_shift : {A : Type 0} (f : ℕ → A) (k n : ℕ) → each f (from (suc k) n) ≡ each (λ j. f (suc j)) (from k n)
unfolding each from
each_shift f k zero = refl
each_shift {A = A} f k (suc n) = ap (λ (l : List A). f (suc k) ∷ l) (each_shift f (suc k) n)

each_at : {A : Type 0} (d : A) (l : List A) → each (nth d l) (from 0 (len l)) ≡ l
unfolding each from nth len
each_at d [] = refl
each_at {A = A} d (x ∷ xs) = ap (λ (l : List A). x ∷ l) (each_shift (nth d (x ∷ xs)) 0 (len xs) ∙ each_at d xs)

-- the partials at a queue's places are the queue's
pub places_queue : (q : DownloadQueue) (d : Picker) → each (partial_in d) (places_in q d) ≡ in_queue q d
unfolding places_in places_below in_queue queue_in partial_in
places_queue q d =
    let t : DownloadingPiece → Bool = λ x. same_queue (unreverse (piece_at d x.piece).state) q in
    each-filter (nth no_partial d.partials) t (from 0 (len d.partials)) ∙ ap (filter t) (each_at no_partial d.partials)

-- ---- their order
-- strictly rising, from lo up to and without hi
pub record Rising (lo hi : ℕ) (l : List ℕ) : Type 0 where
  pub above : (i : ℕ) → i < len l → lo ≤ nth 0 l i
  pub below : (i : ℕ) → i < len l → nth 0 l i < hi
  pub rises : (i j : ℕ) → i < j → j < len l → nth 0 l i < nth 0 l j

module _ (lo hi : ℕ) (l : List ℕ) (r : Rising (suc lo) hi l) where
  rising_cons : lo < hi → Rising lo hi (lo ∷ l)
  unfolding len nth
  rising_cons h = record { above = low; below = high; rises = up }
    where
      low : (i : ℕ) → i < len (lo ∷ l) → lo ≤ nth 0 (lo ∷ l) i
      low zero g = omega arith
      low (suc i) g = omega (arith, r.above i (le_of_suc-le-suc g))

      high : (i : ℕ) → i < len (lo ∷ l) → nth 0 (lo ∷ l) i < hi
      high zero g = h
      high (suc i) g = r.below i (le_of_suc-le-suc g)

      up : (i j : ℕ) → i < j → j < len (lo ∷ l) → nth 0 (lo ∷ l) i < nth 0 (lo ∷ l) j
      up i zero e g = absurd (not-suc-le-zero e)
      up zero (suc j) e g = r.above j (le_of_suc-le-suc g)
      up (suc i) (suc j) e g = r.rises i j (le_of_suc-le-suc e) (le_of_suc-le-suc g)

  rising_lower : Rising lo hi l
  rising_lower = record { above = λ i h. omega (arith, r.above i h); below = r.below; rises = r.rises }

rising_filter : (t : ℕ → Bool) (k n hi : ℕ) → k + n ≤ hi → Rising k hi (filter t (from k n))
unfolding filter from len
rising_filter t k zero hi h =
    record {
      above = λ i g. absurd (not-suc-le-zero g);
      below = λ i g. absurd (not-suc-le-zero g);
      rises = λ i j e g. absurd (not-suc-le-zero g);
    }
rising_filter t k (suc n) hi h = go (t k) (rising_filter t (suc k) n hi (omega arith))
  where
    go : (p : Bool) → Rising (suc k) hi (filter t (from (suc k) n))
        → Rising k hi (cond p (k ∷ filter t (from (suc k) n)) (filter t (from (suc k) n)))
    go true r = rising_cons k hi _ r (omega arith)
    go false r = rising_lower k hi _ r

-- the places of a queue rise, and are below n
pub places_rising : (f : ℕ → DownloadQueue) (q : DownloadQueue) (n : ℕ) → Rising 0 n (places_below f q n)
unfolding places_below
places_rising f q n = rising_filter (λ k. same_queue (f k) q) 0 n n (omega arith)

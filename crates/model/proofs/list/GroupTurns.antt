-- Every move keeps each place's rank, or puts one rank in or takes one out; and it keeps how often each piece is listed.
use mathlib.Core.Path.{◌≡◌, refl, sym, ap, ◌∙◌}
use Prim.Native.Nat.{ℕ, zero, suc, ◌+◌, ◌≤◌, ◌<◌}
use native.Mathlib.Nat.{le_of_suc-le-suc}
use native.Mathlib.Decide.{ℕ_discrete}
use native.Mathlib.Omega.{arith}
use mathlib.Core.Bool.{Bool}
use mathlib.Core.List.{List, [], ◌∷◌, ◌++◌, map}
use lib.ListN.{length, get_or, set, take, drop, length-set, length-map, length-append, take-append-drop}
use lib.Seq.{map-set_same, get_or-set_same, get_or-set_other}
use lib.Dec.{eqb}
use mir.Facts.{eqb_yes}
use Rattle.model.specs.Lists.{bit, count, nth, set_nth, each, remove_nth}
use Rattle.model.specs.list.Order.{carry, turn_left, bring, turn_right, placed, removed, earlier, later, swap}
use Rattle.model.specs.list.Listed.{Permuted}
use Rattle.model.proofs.base.Counts.{cond_both, count_append, count_split, without_parts, count_out, length_without, count-set}

-- m is l with pieces of one rank exchanged: the same rank at each place, the same pieces in some order
pub record Stirred (b : ℕ → ℕ) (l m : List ℕ) : Type 0 where
  pub keys : map b m ≡ map b l
  pub pieces : Permuted l m

-- lists of the same ranks are equally long
pub length_keys : (b : ℕ → ℕ) (l m : List ℕ) → map b m ≡ map b l → length m ≡ length l
length_keys b l m e = sym (length-map m b) ∙ ap length e ∙ length-map l b

-- the definition's `each` is the library's `map`
pub each-map : (b : ℕ → ℕ) (l : List ℕ) → each b l ≡ map b l
unfolding each
each-map b [] = refl
each-map b (x ∷ xs) = ap (λ (r : List ℕ). b x ∷ r) (each-map b xs)

-- ranks of two lists one after the other
pub map_append : (b : ℕ → ℕ) (l m : List ℕ) → map b (l ++ m) ≡ map b l ++ map b m
map_append b [] m = refl
map_append b (y ∷ ys) m = ap (λ (r : List ℕ). b y ∷ r) (map_append b ys m)

-- ranks of the front
pub map-take : (b : ℕ → ℕ) (n : ℕ) (l : List ℕ) → map b (take n l) ≡ take n (map b l)
map-take b zero l = refl
map-take b (suc n) [] = refl
map-take b (suc n) (x ∷ xs) = ap (λ (r : List ℕ). b x ∷ r) (map-take b n xs)

-- ranks of the rest
pub map-drop : (b : ℕ → ℕ) (n : ℕ) (l : List ℕ) → map b (drop n l) ≡ drop n (map b l)
map-drop b zero l = refl
map-drop b (suc n) [] = refl
map-drop b (suc n) (x ∷ xs) = map-drop b n xs

-- ---- turning
module _ (b : ℕ → ℕ) where
  stirred_cons : (x : ℕ) (l m : List ℕ) → Stirred b l m → Stirred b (x ∷ l) (x ∷ m)
  unfolding count
  stirred_cons x l m s = record { keys = ap (λ (r : List ℕ). b x ∷ r) s.keys; pieces = λ t. omega (arith, s.pieces t) }

  -- two neighbours of one rank
  stirred_two : (x y : ℕ) (l m : List ℕ) → b x ≡ b y → Stirred b (y ∷ l) m → Stirred b (y ∷ x ∷ l) (x ∷ m)
  unfolding count
  stirred_two x y l m e s = record { keys = rw (s.keys, e); pieces = λ t. omega (arith, s.pieces t) }

  stirred_carry : (h : ℕ) (l : List ℕ) → Stirred b (h ∷ l) (carry b h l)
  unfolding carry
  stirred_carry h [] = record { keys = refl; pieces = λ t. refl }
  stirred_carry h (y ∷ ys) =
      cond_both (λ (m : List ℕ). Stirred b (h ∷ y ∷ ys) m) (eqb (b y) (b h)) _ _
      (λ t. stirred_two y h ys (carry b h ys) (eqb_yes t) (stirred_carry h ys))
      (λ t. stirred_cons h (y ∷ ys) (carry b y ys) (stirred_carry y ys))

  -- a list whose groups are turned left has the same ranks and pieces
  pub stirred_left : (l : List ℕ) → Stirred b l (turn_left b l)
  unfolding turn_left
  stirred_left [] = record { keys = refl; pieces = λ t. refl }
  stirred_left (x ∷ xs) = stirred_carry x xs

  stirred_bring : (x : ℕ) (l m : List ℕ) → Stirred b l m → Stirred b (x ∷ l) (bring b x m)
  unfolding bring count
  stirred_bring x l [] s = record { keys = ap (λ (r : List ℕ). b x ∷ r) s.keys; pieces = λ t. omega (arith, s.pieces t) }
  stirred_bring x l (h ∷ zs) s =
      cond_both (λ (m : List ℕ). Stirred b (x ∷ l) m) (eqb (b x) (b h)) _ _
      (λ t. let e : b x ≡ b h = eqb_yes t in record { keys = rw (← s.keys, e); pieces = λ t. omega (arith, s.pieces t) })
      (λ t. stirred_cons x l (h ∷ zs) s)

  -- and so has one whose groups are turned right
  pub stirred_right : (l : List ℕ) → Stirred b l (turn_right b l)
  unfolding turn_right
  stirred_right [] = record { keys = refl; pieces = λ t. refl }
  stirred_right (x ∷ xs) = stirred_bring x xs (turn_right b xs) (stirred_right xs)

-- ---- x put in at a place
unfoldable pub entered : ℕ → ℕ → List ℕ → List ℕ
entered p x l = take p l ++ (x ∷ drop p l)

-- x counts on its own
pub count-entered : (t : ℕ → Bool) (p x : ℕ) (l : List ℕ) → count t (entered p x l) ≡ bit (t x) + count t l
unfolding entered count
count-entered t p x l = rw count_append (omega (arith, count_split t p l))

-- one more
pub length-entered : (p x : ℕ) (l : List ℕ) → length (entered p x l) ≡ suc (length l)
unfolding entered
length-entered p x l = omega (arith, length-append (take p l) (x ∷ drop p l), length-append (take p l) (drop p l), ap length (take-append-drop p l))

-- ---- the moves: one rank put in, taken out or moved, the others in their order; one piece more, one less, or each as often
module _ (b : ℕ → ℕ) where
  -- its rank comes in at that place
  pub keys_entered : (p x : ℕ) (l : List ℕ) → map b (entered p x l) ≡ entered p (b x) (map b l)
  unfolding entered
  keys_entered p x l = rw (map_append, map-take b p l, map-drop b p l)

  -- x's rank comes in at p
  pub keys_placed : (p x : ℕ) (l : List ℕ) → map b (placed b p x l) ≡ entered p (b x) (map b l)
  unfolding placed entered
  keys_placed p x l = rw (map_append, (stirred_left b (drop p l)).keys, map-take, map-drop)

  -- and x counts on its own
  pub count-placed : (t : ℕ → Bool) (p x : ℕ) (l : List ℕ) → count t (placed b p x l) ≡ bit (t x) + count t l
  unfolding placed count
  count-placed t p x l = rw count_append (omega (arith, (stirred_left b (drop p l)).pieces t, count_split t p l))

  -- the rank at i goes
  pub keys_removed : (i : ℕ) (l : List ℕ) → map b (removed b i l) ≡ remove_nth i (map b l)
  unfolding removed
  keys_removed i l = rw (without_parts, map_append, (stirred_right b (drop (suc i) l)).keys, map-take, map-drop)

  -- and what stood there counts no more
  pub count-removed : (t : ℕ → Bool) (i : ℕ) (l : List ℕ) → i < length l → bit (t (get_or l i 0)) + count t (removed b i l) ≡ count t l
  unfolding removed
  count-removed t i l h =
      rw count_append (omega (
        arith,
        (stirred_right b (drop (suc i) l)).pieces t,
        count_append t (take i l) (drop (suc i) l),
        rw without_parts at (count_out t i 0 l h),
      ))

  -- the rank at i goes forward to p
  pub keys_earlier : (p i : ℕ) (l : List ℕ) → p ≤ i → i < length l → map b (earlier b p i l) ≡ entered p (b (get_or l i 0)) (remove_nth i (map b l))
  unfolding earlier entered nth remove_nth
  keys_earlier zero i l h k = simp (without_parts, map_append, (stirred_left b (take i l)).keys, map-take, map-drop)
  keys_earlier (suc p) i [] h k = absurd (omega arith)
  keys_earlier (suc p) zero (x ∷ xs) h k = absurd (omega arith)
  keys_earlier (suc p) (suc i) (x ∷ xs) h k = ap (λ (r : List ℕ). b x ∷ r) (keys_earlier p i xs (le_of_suc-le-suc h) (le_of_suc-le-suc k))

  -- and each piece is listed as often
  pub count-earlier : (t : ℕ → Bool) (p i : ℕ) (l : List ℕ) → p ≤ i → i < length l → count t (earlier b p i l) ≡ count t l
  unfolding earlier count nth
  count-earlier t zero i l h k =
      simp count_append (omega (
        arith,
        (stirred_left b (take i l)).pieces t,
        count_append t (take i l) (drop (suc i) l),
        rw without_parts at (count_out t i 0 l k),
      ))
  count-earlier t (suc p) i [] h k = absurd (omega arith)
  count-earlier t (suc p) zero (x ∷ xs) h k = absurd (omega arith)
  count-earlier t (suc p) (suc i) (x ∷ xs) h k = omega (arith, count-earlier t p i xs (le_of_suc-le-suc h) (le_of_suc-le-suc k))

  -- the rank at i goes back to p
  pub keys_later : (i p : ℕ) (l : List ℕ) → i ≤ p → p < length l → map b (later b i p l) ≡ entered p (b (get_or l i 0)) (remove_nth i (map b l))
  unfolding later entered nth remove_nth
  keys_later i p [] h k = absurd (omega arith)
  keys_later zero p (x ∷ xs) h k = simp (map_append, (stirred_right b (take p xs)).keys, map-take, map-drop)
  keys_later (suc i) zero (x ∷ xs) h k = absurd (omega arith)
  keys_later (suc i) (suc p) (x ∷ xs) h k = ap (λ (r : List ℕ). b x ∷ r) (keys_later i p xs (le_of_suc-le-suc h) (le_of_suc-le-suc k))

  -- and each piece is listed as often
  pub count-later : (t : ℕ → Bool) (i p : ℕ) (l : List ℕ) → i ≤ p → p < length l → count t (later b i p l) ≡ count t l
  unfolding later count nth
  count-later t i p [] h k = absurd (omega arith)
  count-later t zero p (x ∷ xs) h k =
      simp count_append (omega (arith, (stirred_right b (take p xs)).pieces t, count_split t p xs))
  count-later t (suc i) zero (x ∷ xs) h k = absurd (omega arith)
  count-later t (suc i) (suc p) (x ∷ xs) h k = omega (arith, count-later t i p xs (le_of_suc-le-suc h) (le_of_suc-le-suc k))

  -- lengths follow from the ranks
  pub length-placed : (p x : ℕ) (l : List ℕ) → length (placed b p x l) ≡ suc (length l)
  length-placed p x l =
      sym (length-map (placed b p x l) b) ∙ ap length (keys_placed p x l) ∙ length-entered p (b x) (map b l) ∙ ap suc (length-map l b)

  -- a place less
  pub length-removed : (i : ℕ) (l : List ℕ) → i < length l → suc (length (removed b i l)) ≡ length l
  length-removed i l h =
      ap suc (sym (length-map (removed b i l) b) ∙ ap length (keys_removed i l)) ∙ length_without i (map b l) (omega (arith, length-map l b)) ∙ length-map l b

  length_moved : (p v i : ℕ) (l m : List ℕ) → i < length l → map b m ≡ entered p v (remove_nth i (map b l)) → length m ≡ length l
  length_moved p v i l m h e =
      sym (length-map m b) ∙ ap length e ∙ length-entered p v (remove_nth i (map b l)) ∙ length_without i (map b l) (omega (arith, length-map l b)) ∙ length-map l b

  -- as many places
  pub length-earlier : (p i : ℕ) (l : List ℕ) → p ≤ i → i < length l → length (earlier b p i l) ≡ length l
  length-earlier p i l h k = length_moved p _ i l (earlier b p i l) k (keys_earlier p i l h k)

  -- as many places
  pub length-later : (i p : ℕ) (l : List ℕ) → i ≤ p → p < length l → length (later b i p l) ≡ length l
  length-later i p l h k = length_moved p _ i l (later b i p l) (omega arith) (keys_later i p l h k)

-- ---- an exchange within a rank
module _ (l : List ℕ) (i j : ℕ) where
  -- what the second store finds
  found : i < length l → get_or (set l i (get_or l j 0)) j 0 ≡ get_or l j 0
  found h = elim (ℕ_discrete j i) [
    | yes e ↦ rw e (get_or-set_same l i (get_or l i 0) 0 h)
    | no n ↦ get_or-set_other l i j (get_or l j 0) 0 n
  ]

  -- each number as often
  pub count-swap : (t : ℕ → Bool) → i < length l → j < length l → count t (swap l i j) ≡ count t l
  unfolding swap nth set_nth
  count-swap t hi hj =
      let a = count-set t l i (get_or l j 0) 0 hi in
      let c = count-set t (set l i (get_or l j 0)) j (get_or l i 0) 0 (omega (arith, length-set l i (get_or l j 0))) in
      let f : bit (t (get_or (set l i (get_or l j 0)) j 0)) ≡ bit (t (get_or l j 0)) = ap (λ (k : ℕ). bit (t k)) (found hi) in
      omega arith

  -- as many places
  pub length-swap : length (swap l i j) ≡ length l
  unfolding swap nth set_nth
  length-swap = length-set (set l i (get_or l j 0)) j (get_or l i 0) ∙ length-set l i (get_or l j 0)

  -- two pieces of one rank that change places
  pub stirred_swap : (b : ℕ → ℕ) → i < length l → j < length l → b (get_or l i 0) ≡ b (get_or l j 0) → Stirred b l (swap l i j)
  unfolding swap nth set_nth
  stirred_swap b hi hj e = record {
    keys = map-set_same b (set l i (get_or l j 0)) j (get_or l i 0) 0 (e ∙ ap b (sym (found hi))) ∙ map-set_same b l i (get_or l j 0) 0 (sym e);
    pieces = λ t. count-swap t hi hj;
  }

-- one exchange after another
pub stirred_trans : (b : ℕ → ℕ) (l m n : List ℕ) → Stirred b l m → Stirred b m n → Stirred b l n
stirred_trans b l m n r s = record { keys = s.keys ∙ r.keys; pieces = λ t. s.pieces t ∙ r.pieces t }

-- The rows of places, one partial after another, and what stands in them in the end. Assumes nothing.
use mathlib.Core.Path.{◌≡◌, refl, sym, ap, ◌∙◌}
use mathlib.Core.Logic.{◌≢◌}
use mathlib.Core.Bool.{true, false}
use mathlib.Core.List.{List, [], ◌∷◌, ◌++◌}
use Prim.Native.Nat.{ℕ, zero, suc, ◌+◌, ◌≤◌, ◌<◌}
use native.Mathlib.Numerals.{add-one}
use native.Mathlib.Decide.{ℕ_discrete}
use native.Mathlib.Omega.{arith}
use lib.ListN.{length, take, set, replicate, length-append, length-set, length-replicate, get_or-replicate}
use lib.Seq.{get_or-set_same, get_or-set_other, take-suc-set, get_or-take}
use borrow.Author.Tests.{eq-eqb, ne_eqb}
use Rattle.types.specs.declared.queue.DownloadQueue.{DownloadQueue}
use Rattle.types.specs.Queue.{queue_number}
use Rattle.model.specs.Lists.{nth, set_nth, each, len}
use Rattle.model.specs.State.{Picker, same_queue}
use Rattle.model.specs.change.Partials.{in_queue}
use Rattle.memory_layout.specs.Tables.{front}
use Rattle.memory_layout.specs.Decode.{queue_from}
use Rattle.memory_layout.specs.Changes.{partial_in}
use Rattle.memory_layout.proofs.Numbers.{queue_number_lem}
use Rattle.memory_queues.specs.Queues.{queue_in, places_below, places_in, Shaped, Entered, Queued}
use Rattle.memory_queues.proofs.PlaceLaws.{below_none, below_in, below_out, below_few, below_same, places_queue}

-- ---- lists
module _ {A : Type 0} (d x : A) (l : List A) (i : ℕ) where
  at_put : i < len l → nth d (set_nth i x l) i ≡ x
  unfolding nth set_nth len
  at_put h = get_or-set_same l i x d h

  at_beside : (j : ℕ) → j ≢ i → nth d (set_nth i x l) j ≡ nth d l j
  unfolding nth set_nth
  at_beside j n = get_or-set_other l i j x d n

  size_put : len (set_nth i x l) ≡ len l
  unfolding set_nth len
  size_put = length-set l i x

  front_put : i < len l → front (i + 1) (set_nth i x l) ≡ front i l ++ (x ∷ [])
  unfolding set_nth len front
  front_put h = ap (λ (k : ℕ). take k (set l i x)) (add-one i) ∙ take-suc-set l i x h

size_more : (l : List ℕ) (x : ℕ) → len (l ++ (x ∷ [])) ≡ len l + 1
unfolding len
size_more l x = length-append l (x ∷ [])

-- ---- the test of a queue by its number
module _ (queue_of : ℕ → DownloadQueue) (n c q : ℕ) (e : c ≡ queue_number (queue_of n)) (h : q < 4) where
  is_in_queue : q ≡ c → same_queue (queue_of n) (queue_from q) ≡ true
  unfolding same_queue
  is_in_queue f = eq-eqb (queue_number (queue_of n)) (queue_number (queue_from q)) (sym e ∙ sym f ∙ sym (queue_number_lem q (omega arith)))

  beside_queue : q ≢ c → same_queue (queue_of n) (queue_from q) ≡ false
  unfolding same_queue
  beside_queue f =
      ne_eqb (queue_number (queue_of n)) (queue_number (queue_from q)) (λ g. f (sym (queue_number_lem q (omega arith)) ∙ sym g ∙ sym e))

-- ---- the turns
no_sizes : (q : ℕ) → nth {A = ℕ} 0 (0 ∷ 0 ∷ 0 ∷ 0 ∷ []) q ≡ 0
unfolding nth
no_sizes zero = refl
no_sizes (suc zero) = refl
no_sizes (suc (suc zero)) = refl
no_sizes (suc (suc (suc zero))) = refl
no_sizes (suc (suc (suc (suc q)))) = refl

pub entered_start : (queue_of : ℕ → DownloadQueue) (queues : List (List ℕ)) → Shaped queues → Entered queue_of 0 queues (0 ∷ 0 ∷ 0 ∷ 0 ∷ [])
unfolding len front
entered_start queue_of queues g = record {
  shaped = g;
  counted = refl;
  count = λ q h. no_sizes q ∙ ap len (sym (below_none queue_of (queue_from q)));
  row = λ q h. ap (λ (m : ℕ). front m (nth [] queues q)) (no_sizes q) ∙ sym (below_none queue_of (queue_from q));
}

-- n behind the places that row c has
module _ (n c : ℕ) (queues : List (List ℕ)) (sizes : List ℕ) where
  abbrev next_row : List ℕ
  next_row = set_nth (nth 0 sizes c) n (nth [] queues c)

  abbrev next_rows : List (List ℕ)
  next_rows = set_nth c next_row queues

  abbrev next_sizes : List ℕ
  next_sizes = set_nth c (nth 0 sizes c + 1) sizes

module _ (queue_of : ℕ → DownloadQueue) (n c : ℕ) (queues : List (List ℕ)) (sizes : List ℕ) (g : Entered queue_of n queues sizes)
    (e : c ≡ queue_number (queue_of n)) (h : c < 4) (l : n < 512) where
  -- the row has room
  pub row_room : nth 0 sizes c < 512
  row_room = omega (arith, g.count c h, below_few queue_of (queue_from c) n)

  row_put : nth [] (next_rows n c queues sizes) c ≡ next_row n c queues sizes
  row_put = at_put [] (next_row n c queues sizes) queues c (omega (arith, g.shaped.many))

  row_beside : (q : ℕ) → q ≢ c → nth [] (next_rows n c queues sizes) q ≡ nth [] queues q
  row_beside q f = at_beside [] (next_row n c queues sizes) queues c q f

  size_next : nth 0 (next_sizes n c queues sizes) c ≡ nth 0 sizes c + 1
  size_next = at_put 0 (nth 0 sizes c + 1) sizes c (omega (arith, g.counted))

  size_beside : (q : ℕ) → q ≢ c → nth 0 (next_sizes n c queues sizes) q ≡ nth 0 sizes q
  size_beside q f = at_beside 0 (nth 0 sizes c + 1) sizes c q f

  wider : (q : ℕ) → q < 4 → len (nth [] (next_rows n c queues sizes) q) ≡ 512
  wider q k = elim (ℕ_discrete q c) [
    | yes f ↦ rw f (ap len row_put ∙ size_put 0 n (nth [] queues c) (nth 0 sizes c) ∙ g.shaped.wide c h)
    | no f ↦ ap len (row_beside q f) ∙ g.shaped.wide q k
  ]

  counts : (q : ℕ) → q < 4 → nth 0 (next_sizes n c queues sizes) q ≡ len (places_below queue_of (queue_from q) (n + 1))
  counts q k = elim (ℕ_discrete q c) [
    | yes f ↦ (
        ap (nth 0 (next_sizes n c queues sizes)) f ∙ size_next ∙ ap (λ (m : ℕ). m + 1) (g.count c h)
        ∙ sym (size_more (places_below queue_of (queue_from c) n) n)
        ∙ ap len (sym (below_in queue_of (queue_from c) n (is_in_queue queue_of n c c e h refl)))
        ∙ ap (λ (m : ℕ). len (places_below queue_of (queue_from m) (n + 1))) (sym f)
        )
    | no f ↦
        size_beside q f ∙ g.count q k ∙ ap len (sym (below_out queue_of (queue_from q) n (beside_queue queue_of n c q e k f)))
  ]

  rowed : (q : ℕ) → q < 4
      → front (nth 0 (next_sizes n c queues sizes) q) (nth [] (next_rows n c queues sizes) q) ≡ places_below queue_of (queue_from q) (n + 1)
  rowed q k = elim (ℕ_discrete q c) [
    | yes f ↦ rw (f, size_next, row_put) (
        front_put 0 n (nth [] queues c) (nth 0 sizes c) (omega (arith, row_room, g.shaped.wide c h))
        ∙ ap (λ (m : List ℕ). m ++ (n ∷ [])) (g.row c h)
        ∙ sym (below_in queue_of (queue_from c) n (is_in_queue queue_of n c c e h refl))
        )
    | no f ↦ rw (size_beside q f, row_beside q f)
        (g.row q k ∙ sym (below_out queue_of (queue_from q) n (beside_queue queue_of n c q e k f)))
  ]

  -- the next partial behind those of its row
  pub entered_next : (queues' : List (List ℕ)) (sizes' : List ℕ)
      → queues' ≡ set_nth c (set_nth (nth 0 sizes c) n (nth [] queues c)) queues → sizes' ≡ set_nth c (nth 0 sizes c + 1) sizes
      → Entered queue_of (n + 1) queues' sizes'
  entered_next queues' sizes' a b = rw (a, b) (record {
    shaped = record { many = size_put [] (next_row n c queues sizes) queues c ∙ g.shaped.many; wide = wider };
    counted = size_put 0 (nth 0 sizes c + 1) sizes c ∙ g.counted;
    count = counts;
    row = rowed;
  })

-- all of them, and of the same queues
pub entered_same : (queue_of queue_of' : ℕ → DownloadQueue) (queues : List (List ℕ)) (sizes : List ℕ) (k n : ℕ)
    → Entered queue_of k queues sizes → k ≡ n → ((j : ℕ) → j < n → queue_of j ≡ queue_of' j) → Entered queue_of' n queues sizes
entered_same queue_of queue_of' queues sizes k n g e h = record {
  shaped = g.shaped;
  counted = g.counted;
  count = λ q l. g.count q l ∙ ap (λ (m : ℕ). len (places_below queue_of (queue_from q) m)) e
      ∙ ap len (below_same queue_of queue_of' (queue_from q) n h);
  row = λ q l. g.row q l ∙ ap (places_below queue_of (queue_from q)) e ∙ below_same queue_of queue_of' (queue_from q) n h;
}

-- rows just made
pub shaped_fresh : Shaped (replicate 4 (replicate 512 0))
unfolding len nth
shaped_fresh =
    let row : List ℕ = replicate 512 0 in
    record { many = length-replicate 4 row; wide = λ q h. ap length (get_or-replicate 4 q row [] h) ∙ length-replicate {A = ℕ} 512 0 }

-- ---- what stands in the rows
module _ (d : Picker) (queues : List (List ℕ)) (sizes : List ℕ) (g : Queued d queues sizes) (q : ℕ) (h : q < 4) where
  -- row q starts with the places of its queue
  pub row_is : front (nth 0 sizes q) (nth [] queues q) ≡ places_in (queue_from q) d
  unfolding places_in
  row_is = g.row q h

  -- as many as the queue has
  pub size_is : nth 0 sizes q ≡ len (places_in (queue_from q) d)
  unfolding places_in
  size_is = g.count q h

  -- at most all partials
  pub size_few : nth 0 sizes q ≤ len d.partials
  size_few = omega (arith, g.count q h, below_few (queue_in d) (queue_from q) (len d.partials))

  -- place j of the row is the queue's
  pub place_is : (j : ℕ) → j < nth 0 sizes q → nth 0 (nth [] queues q) j ≡ nth 0 (places_in (queue_from q) d) j
  unfolding nth front
  place_is j l = sym (get_or-take (nth 0 sizes q) (nth [] queues q) j 0 l) ∙ ap (λ (m : List ℕ). nth 0 m j) row_is

  -- the partials at them are the model's queue
  pub row_queue : each (partial_in d) (front (nth 0 sizes q) (nth [] queues q)) ≡ in_queue (queue_from q) d
  row_queue = ap (each (partial_in d)) row_is ∙ places_queue (queue_from q) d

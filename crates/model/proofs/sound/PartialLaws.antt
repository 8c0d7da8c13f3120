-- Partials by rising piece: finding one after one was replaced, added or dropped; how many stand; that their pieces still rise.
use mathlib.Core.Path.{◌≡◌, refl, sym, ap, ap₂, ◌∙◌}
use mathlib.Core.Logic.{◌≢◌, ◌⊎◌, inl, inr}
use Prim.Native.Nat.{ℕ, zero, suc, ◌≤◌, ◌<◌}
use native.Mathlib.Nat.{le_of_suc-le-suc}
use native.Mathlib.Decide.{ℕ_discrete, dec_le}
use native.Mathlib.Omega.{arith}
use mathlib.Core.Bool.{Bool, true, false, not, cond}
use mathlib.Core.List.{List, [], ◌∷◌}
use mathlib.Core.Option.{Option, none, some, some-injective, none-ne-some}
use lib.ListN.{length, get_or}
use lib.Dec.{eqb, ltb}
use borrow.Author.Tests.{ltb-true, lt-ltb, le-ltb, eq-eqb, ne_eqb}
use Rattle.model.specs.Lists.{nth, len, each, filter, insert_by}
use Rattle.model.specs.State.{DownloadingPiece, Picker, with_partials}
use Rattle.model.specs.change.Partials.{find_dl_piece, partial_of, replace_in, replace_partial, insert_in, fresh_partial, add_partial}
use Rattle.model.specs.change.Partials.{drop_partial}
use Rattle.model.specs.image.Sound.{partials_from}
use Rattle.model.proofs.base.Truths.{both_true, true_or_false}
use Rattle.model.proofs.base.Counts.{three}
use Rattle.model.proofs.sound.PieceLaws.{size_each}

-- ---- finding
-- a partial stands for the piece, or none does
pub found_or_none : (i : ℕ) (ds : List DownloadingPiece) → (find_dl_piece i ds ≡ none) ⊎ ((d : DownloadingPiece) × (find_dl_piece i ds ≡ some d))
found_or_none i ds = go (find_dl_piece i ds)
  where
    go : (o : Option DownloadingPiece) → (o ≡ none) ⊎ ((d : DownloadingPiece) × (o ≡ some d))
    go none = inl refl
    go (some d) = inr (d, refl)

-- the first one is the piece's
pub find_dl_piece_here : (i : ℕ) (d : DownloadingPiece) (ds : List DownloadingPiece) → d.piece ≡ i → find_dl_piece i (d ∷ ds) ≡ some d
unfolding find_dl_piece
find_dl_piece_here i d ds e = rw (eq-eqb d.piece i e)

-- the first one is another piece's
pub find_dl_piece_there : (i : ℕ) (d : DownloadingPiece) (ds : List DownloadingPiece) → d.piece ≢ i → find_dl_piece i (d ∷ ds) ≡ find_dl_piece i ds
unfolding find_dl_piece
find_dl_piece_there i d ds n = rw (ne_eqb d.piece i n)

-- what is found is the piece's
pub find_dl_piece-piece : (i : ℕ) (ds : List DownloadingPiece) (d : DownloadingPiece) → find_dl_piece i ds ≡ some d → d.piece ≡ i
unfolding find_dl_piece
find_dl_piece-piece i [] d h = absurd (none-ne-some d h)
find_dl_piece-piece i (x ∷ xs) d h = elim (ℕ_discrete x.piece i) [
  | yes e ↦ ap (λ (y : DownloadingPiece). y.piece) (sym (some-injective x d (sym (find_dl_piece_here i x xs e) ∙ h))) ∙ e
  | no n ↦ find_dl_piece-piece i xs d (sym (find_dl_piece_there i x xs n) ∙ h)
]

-- ---- rising pieces
-- the first one's piece is not below the bound
pub from_head : (lo : ℕ) (d : DownloadingPiece) (ds : List DownloadingPiece) → partials_from lo (d ∷ ds) ≡ true → lo ≤ d.piece
unfolding partials_from
from_head lo d ds h = omega (arith, ltb-true lo (suc d.piece) (both_true (ltb lo (suc d.piece)) (partials_from (suc d.piece) ds) h).0)

-- the others' are above it
pub from_tail : (lo : ℕ) (d : DownloadingPiece) (ds : List DownloadingPiece) → partials_from lo (d ∷ ds) ≡ true → partials_from (suc d.piece) ds ≡ true
unfolding partials_from
from_tail lo d ds h = (both_true (ltb lo (suc d.piece)) (partials_from (suc d.piece) ds) h).1

-- one in front of those above it
pub from_cons : (lo : ℕ) (d : DownloadingPiece) (ds : List DownloadingPiece) → lo ≤ d.piece → partials_from (suc d.piece) ds ≡ true → partials_from lo (d ∷ ds) ≡ true
unfolding partials_from
from_cons lo d ds h r = rw (lt-ltb lo (suc d.piece) (omega arith)) r

-- a lower bound will do
pub from_lower : (lo lo' : ℕ) (ds : List DownloadingPiece) → lo' ≤ lo → partials_from lo ds ≡ true → partials_from lo' ds ≡ true
unfolding partials_from
from_lower lo lo' [] h r = refl
from_lower lo lo' (d ∷ ds) h r = let g = from_head lo d ds r in from_cons lo' d ds (omega arith) (from_tail lo d ds r)

-- below the bound no partial stands
pub find_dl_piece_below : (lo i : ℕ) (ds : List DownloadingPiece) → partials_from lo ds ≡ true → i < lo → find_dl_piece i ds ≡ none
unfolding find_dl_piece
find_dl_piece_below lo i [] r h = refl
find_dl_piece_below lo i (d ∷ ds) r h =
    let g = from_head lo d ds r in
    find_dl_piece_there i d ds (λ (e : d.piece ≡ i). absurd (omega arith))
    ∙ find_dl_piece_below (suc d.piece) i ds (from_tail lo d ds r) (omega arith)

-- ---- one replaced
put_here : (d x : DownloadingPiece) (xs : List DownloadingPiece) → x.piece ≡ d.piece → replace_in d (x ∷ xs) ≡ d ∷ replace_in d xs
unfolding replace_in each
put_here d x xs e = rw (eq-eqb x.piece d.piece e)

put_there : (d x : DownloadingPiece) (xs : List DownloadingPiece) → x.piece ≢ d.piece → replace_in d (x ∷ xs) ≡ x ∷ replace_in d xs
unfolding replace_in each
put_there d x xs n = rw (ne_eqb x.piece d.piece n)

-- the new one is found where one stood
pub find_dl_piece_put_same : (i : ℕ) (d e : DownloadingPiece) (ds : List DownloadingPiece) → d.piece ≡ i → find_dl_piece i ds ≡ some e → find_dl_piece i (replace_in d ds) ≡ some d
unfolding find_dl_piece
find_dl_piece_put_same i d e [] p h = absurd (none-ne-some e h)
find_dl_piece_put_same i d e (x ∷ xs) p h = elim (ℕ_discrete x.piece i) [
  | yes q ↦ rw (put_here d x xs (q ∙ sym p)) (find_dl_piece_here i d (replace_in d xs) p)
  | no n ↦
      rw (put_there d x xs (λ (q : x.piece ≡ d.piece). n (q ∙ p)))
      (find_dl_piece_there i x (replace_in d xs) n ∙ find_dl_piece_put_same i d e xs p (sym (find_dl_piece_there i x xs n) ∙ h))
]

-- other pieces have what they had
pub find_dl_piece_put_other : (i : ℕ) (d : DownloadingPiece) (ds : List DownloadingPiece) → d.piece ≢ i → find_dl_piece i (replace_in d ds) ≡ find_dl_piece i ds
unfolding replace_in each
find_dl_piece_put_other i d [] n = refl
find_dl_piece_put_other i d (x ∷ xs) n = elim (ℕ_discrete x.piece d.piece) [
  | yes q ↦
      rw (put_here d x xs q)
      (find_dl_piece_there i d (replace_in d xs) n ∙ find_dl_piece_put_other i d xs n ∙ sym (find_dl_piece_there i x xs (λ (e : x.piece ≡ i). n (sym q ∙ e))))
  | no m ↦ rw (put_there d x xs m) (elim (ℕ_discrete x.piece i) [
    | yes e ↦ find_dl_piece_here i x (replace_in d xs) e ∙ sym (find_dl_piece_here i x xs e)
    | no k ↦ find_dl_piece_there i x (replace_in d xs) k ∙ find_dl_piece_put_other i d xs n ∙ sym (find_dl_piece_there i x xs k)
  ])
]

-- where none stood none stands
pub find_dl_piece_put_none : (i : ℕ) (d : DownloadingPiece) (ds : List DownloadingPiece) → find_dl_piece i ds ≡ none → find_dl_piece i (replace_in d ds) ≡ none
unfolding replace_in each
find_dl_piece_put_none i d [] h = h
find_dl_piece_put_none i d (x ∷ xs) h = elim (ℕ_discrete x.piece i) [
  | yes e ↦ absurd (none-ne-some x (sym h ∙ find_dl_piece_here i x xs e))
  | no n ↦ elim (ℕ_discrete x.piece d.piece) [
    | yes q ↦
        rw (put_here d x xs q)
        (find_dl_piece_there i d (replace_in d xs) (λ (e : d.piece ≡ i). n (q ∙ e)) ∙ find_dl_piece_put_none i d xs (sym (find_dl_piece_there i x xs n) ∙ h))
    | no m ↦ rw (put_there d x xs m) (find_dl_piece_there i x (replace_in d xs) n ∙ find_dl_piece_put_none i d xs (sym (find_dl_piece_there i x xs n) ∙ h))
  ]
]

-- as many stand
pub size_put : (d : DownloadingPiece) (ds : List DownloadingPiece) → len (replace_in d ds) ≡ len ds
unfolding replace_in
size_put d ds = size_each (λ e. cond (eqb e.piece d.piece) d e) ds

-- and their pieces rise as before
pub from_put : (lo : ℕ) (d : DownloadingPiece) (ds : List DownloadingPiece) → partials_from lo ds ≡ true → partials_from lo (replace_in d ds) ≡ true
unfolding replace_in each
from_put lo d [] r = r
from_put lo d (x ∷ xs) r =
    let a = from_head lo x xs r in
    let b = from_put (suc x.piece) d xs (from_tail lo x xs r) in
    elim (ℕ_discrete x.piece d.piece) [
      | yes q ↦ rw (put_here d x xs q) (from_cons lo d (replace_in d xs) (omega arith) (rw q at b))
      | no n ↦ rw (put_there d x xs n) (from_cons lo x (replace_in d xs) a b)
    ]

-- ---- one added
insert_before : (d x : DownloadingPiece) (xs : List DownloadingPiece) → d.piece < x.piece → insert_in d (x ∷ xs) ≡ d ∷ x ∷ xs
unfolding insert_in insert_by
insert_before d x xs h = rw (lt-ltb d.piece x.piece h)

insert_behind : (d x : DownloadingPiece) (xs : List DownloadingPiece) → x.piece ≤ d.piece → insert_in d (x ∷ xs) ≡ x ∷ insert_in d xs
unfolding insert_in insert_by
insert_behind d x xs h = rw (le-ltb d.piece x.piece h)

-- the new one is found where none stood
pub find_dl_piece_insert_same : (i : ℕ) (d : DownloadingPiece) (ds : List DownloadingPiece) → d.piece ≡ i → find_dl_piece i ds ≡ none → find_dl_piece i (insert_in d ds) ≡ some d
unfolding insert_in insert_by
find_dl_piece_insert_same i d [] p h = find_dl_piece_here i d [] p
find_dl_piece_insert_same i d (x ∷ xs) p h = elim (dec_le x.piece d.piece) [
  | yes q ↦ rw (insert_behind d x xs q) (elim (ℕ_discrete x.piece i) [
    | yes e ↦ absurd (none-ne-some x (sym h ∙ find_dl_piece_here i x xs e))
    | no n ↦ find_dl_piece_there i x (insert_in d xs) n ∙ find_dl_piece_insert_same i d xs p (sym (find_dl_piece_there i x xs n) ∙ h)
  ])
  | no q ↦ rw (insert_before d x xs (omega arith)) (find_dl_piece_here i d (x ∷ xs) p)
]

-- other pieces have what they had
pub find_dl_piece_insert_other : (i : ℕ) (d : DownloadingPiece) (ds : List DownloadingPiece) → d.piece ≢ i → find_dl_piece i (insert_in d ds) ≡ find_dl_piece i ds
unfolding insert_in insert_by
find_dl_piece_insert_other i d [] n = find_dl_piece_there i d [] n
find_dl_piece_insert_other i d (x ∷ xs) n = elim (dec_le x.piece d.piece) [
  | yes q ↦ rw (insert_behind d x xs q) (elim (ℕ_discrete x.piece i) [
    | yes e ↦ find_dl_piece_here i x (insert_in d xs) e ∙ sym (find_dl_piece_here i x xs e)
    | no m ↦ find_dl_piece_there i x (insert_in d xs) m ∙ find_dl_piece_insert_other i d xs n ∙ sym (find_dl_piece_there i x xs m)
  ])
  | no q ↦ rw (insert_before d x xs (omega arith)) (find_dl_piece_there i d (x ∷ xs) n)
]

-- one more stands
pub size_insert : (d : DownloadingPiece) (ds : List DownloadingPiece) → len (insert_in d ds) ≡ suc (len ds)
unfolding insert_in insert_by len
size_insert d [] = refl
size_insert d (x ∷ xs) = elim (dec_le x.piece d.piece) [
  | yes q ↦ rw (insert_behind d x xs q) (ap suc (size_insert d xs))
  | no q ↦ rw (insert_before d x xs (omega arith))
]

-- the pieces still rise, where none stood for the new one's
pub from_insert : (lo : ℕ) (d : DownloadingPiece) (ds : List DownloadingPiece) → lo ≤ d.piece → find_dl_piece d.piece ds ≡ none → partials_from lo ds ≡ true → partials_from lo (insert_in d ds) ≡ true
unfolding insert_in insert_by partials_from
from_insert lo d [] h f r = from_cons lo d [] h r
from_insert lo d (x ∷ xs) h f r =
    let a = from_head lo x xs r in
    let b = from_tail lo x xs r in
    elim (dec_le x.piece d.piece) [
      | yes q ↦ rw (insert_behind d x xs q) (elim (ℕ_discrete x.piece d.piece) [
        | yes e ↦ absurd (none-ne-some x (sym f ∙ find_dl_piece_here d.piece x xs e))
        | no n ↦
            from_cons lo x (insert_in d xs) a
            (from_insert (suc x.piece) d xs (omega arith) (sym (find_dl_piece_there d.piece x xs n) ∙ f) b)
      ])
      | no q ↦
          rw (insert_before d x xs (omega arith)) (from_cons lo d (x ∷ xs) h (from_cons (suc d.piece) x xs (omega arith) b))
    ]

-- ---- some left out
module _ {A : Type 0} (t : A → Bool) where
  filter_in : (x : A) (xs : List A) → t x ≡ true → filter t (x ∷ xs) ≡ x ∷ filter t xs
  unfolding filter
  filter_in x xs e = rw e

  filter_out : (x : A) (xs : List A) → t x ≡ false → filter t (x ∷ xs) ≡ filter t xs
  unfolding filter
  filter_out x xs e = rw e

  -- a test leaves no more than there were
  pub size_filter_le : (l : List A) → len (filter t l) ≤ len l
  unfolding len filter
  size_filter_le [] = omega arith
  size_filter_le (x ∷ xs) = go (t x) (size_filter_le xs)
    where
      go : (p : Bool) → length (filter t xs) ≤ length xs → length (cond p (x ∷ filter t xs) (filter t xs)) ≤ suc (length xs)
      go true h = omega arith
      go false h = omega arith

-- what is left still rises
pub from_filter : (t : DownloadingPiece → Bool) (lo : ℕ) (ds : List DownloadingPiece) → partials_from lo ds ≡ true → partials_from lo (filter t ds) ≡ true
unfolding filter
from_filter t lo [] r = r
from_filter t lo (x ∷ xs) r =
    go (t x) (from_filter t (suc x.piece) xs (from_tail lo x xs r))
  where
    go : (p : Bool) → partials_from (suc x.piece) (filter t xs) ≡ true → partials_from lo (cond p (x ∷ filter t xs) (filter t xs)) ≡ true
    go true b = from_cons lo x (filter t xs) (from_head lo x xs r) b
    go false b = let a = from_head lo x xs r in from_lower (suc x.piece) lo (filter t xs) (omega arith) b

module _ (t : DownloadingPiece → Bool) where
  -- what passes the test is found as before
  pub find_dl_piece-filter : (i : ℕ) (d : DownloadingPiece) (ds : List DownloadingPiece) → find_dl_piece i ds ≡ some d → t d ≡ true → find_dl_piece i (filter t ds) ≡ some d
  unfolding find_dl_piece
  find_dl_piece-filter i d [] h p = absurd (none-ne-some d h)
  find_dl_piece-filter i d (x ∷ xs) h p = elim (ℕ_discrete x.piece i) [
    | yes e ↦ (
        let q = some-injective x d (sym (find_dl_piece_here i x xs e) ∙ h) in
        rw (filter_in t x xs (rw q p)) (find_dl_piece_here i x (filter t xs) e ∙ sym (find_dl_piece_here i x xs e) ∙ h)
        )
    | no n ↦ (
        let rest = find_dl_piece-filter i d xs (sym (find_dl_piece_there i x xs n) ∙ h) p in
        elim (true_or_false (t x)) [
          | inl q ↦ rw (filter_in t x xs q) (find_dl_piece_there i x (filter t xs) n ∙ rest)
          | inr q ↦ rw (filter_out t x xs q) rest
        ]
        )
  ]

  -- what is found among those that pass was found before, and passes
  pub filter-find_dl_piece : (lo i : ℕ) (d : DownloadingPiece) (ds : List DownloadingPiece) → partials_from lo ds ≡ true → find_dl_piece i (filter t ds) ≡ some d
      → (find_dl_piece i ds ≡ some d) × (t d ≡ true)
  unfolding filter find_dl_piece
  filter-find_dl_piece lo i d [] r h = absurd (none-ne-some d h)
  filter-find_dl_piece lo i d (x ∷ xs) r h = elim (true_or_false (t x)) [
    | inl q ↦ (
        let k : find_dl_piece i (x ∷ filter t xs) ≡ some d = rw q at h in
        elim (ℕ_discrete x.piece i) [
          | yes e ↦ (
              let g = sym (find_dl_piece_here i x (filter t xs) e) ∙ k in
              (find_dl_piece_here i x xs e ∙ g, rw (some-injective x d g) at q)
              )
          | no n ↦ (
              let g = filter-find_dl_piece (suc x.piece) i d xs (from_tail lo x xs r) (sym (find_dl_piece_there i x (filter t xs) n) ∙ k) in
              (find_dl_piece_there i x xs n ∙ g.0, g.1)
              )
        ]
        )
    | inr q ↦ (
        let k : find_dl_piece i (filter t xs) ≡ some d = rw q at h in
        let g = filter-find_dl_piece (suc x.piece) i d xs (from_tail lo x xs r) k in
        elim (ℕ_discrete x.piece i) [
          | yes e ↦ absurd (none-ne-some d (sym (find_dl_piece_below (suc x.piece) i xs (from_tail lo x xs r) (omega arith)) ∙ g.0))
          | no n ↦ (find_dl_piece_there i x xs n ∙ g.0, g.1)
        ]
        )
  ]

-- ---- a piece's partial dropped
-- the partial is another piece's
abbrev pub another : ℕ → DownloadingPiece → Bool
another i d = not (eqb d.piece i)

another_no : (i : ℕ) (d : DownloadingPiece) → d.piece ≡ i → another i d ≡ false
another_no i d e = rw (eq-eqb d.piece i e)

another_yes : (i : ℕ) (d : DownloadingPiece) → d.piece ≢ i → another i d ≡ true
another_yes i d n = rw (ne_eqb d.piece i n)

-- none of the piece stands any more
pub find_dl_piece_drop_same : (i : ℕ) (ds : List DownloadingPiece) → find_dl_piece i (filter (another i) ds) ≡ none
unfolding filter find_dl_piece
find_dl_piece_drop_same i [] = refl
find_dl_piece_drop_same i (x ∷ xs) = elim (ℕ_discrete x.piece i) [
  | yes e ↦ rw (another_no i x e) (find_dl_piece_drop_same i xs)
  | no n ↦ rw (another_yes i x n) (find_dl_piece_there i x (filter (another i) xs) n ∙ find_dl_piece_drop_same i xs)
]

-- other pieces have what they had
pub find_dl_piece_drop_other : (i k : ℕ) (ds : List DownloadingPiece) → k ≢ i → find_dl_piece k (filter (another i) ds) ≡ find_dl_piece k ds
unfolding filter
find_dl_piece_drop_other i k [] m = refl
find_dl_piece_drop_other i k (x ∷ xs) m = elim (ℕ_discrete x.piece i) [
  | yes e ↦ rw (another_no i x e) (find_dl_piece_drop_other i k xs m ∙ sym (find_dl_piece_there k x xs (λ (q : x.piece ≡ k). m (sym q ∙ e))))
  | no n ↦ rw (another_yes i x n) (elim (ℕ_discrete x.piece k) [
    | yes q ↦ find_dl_piece_here k x (filter (another i) xs) q ∙ sym (find_dl_piece_here k x xs q)
    | no q ↦ find_dl_piece_there k x (filter (another i) xs) q ∙ find_dl_piece_drop_other i k xs m ∙ sym (find_dl_piece_there k x xs q)
  ])
]

-- one replaced before is dropped as well
pub drop_put : (i : ℕ) (d : DownloadingPiece) (ds : List DownloadingPiece) → d.piece ≡ i → filter (another i) (replace_in d ds) ≡ filter (another i) ds
unfolding filter replace_in each
drop_put i d [] p = refl
drop_put i d (x ∷ xs) p = elim (ℕ_discrete x.piece i) [
  | yes e ↦ rw (eq-eqb x.piece d.piece (e ∙ sym p), another_no i d p, another_no i x e) (drop_put i d xs p)
  | no n ↦
      rw (ne_eqb x.piece d.piece (λ (q : x.piece ≡ d.piece). n (q ∙ p)), another_yes i x n)
      (ap (λ (l : List DownloadingPiece). x ∷ l) (drop_put i d xs p))
]

-- where none stood nothing changes
pub drop-none : (i : ℕ) (ds : List DownloadingPiece) → find_dl_piece i ds ≡ none → filter (another i) ds ≡ ds
unfolding filter
drop-none i [] h = refl
drop-none i (x ∷ xs) h = elim (ℕ_discrete x.piece i) [
  | yes e ↦ absurd (none-ne-some x (sym h ∙ find_dl_piece_here i x xs e))
  | no n ↦ rw (another_yes i x n) (ap (λ (l : List DownloadingPiece). x ∷ l) (drop-none i xs (sym (find_dl_piece_there i x xs n) ∙ h)))
]

-- where one stood there is one less
pub size_drop : (lo i : ℕ) (d : DownloadingPiece) (ds : List DownloadingPiece) → partials_from lo ds ≡ true → find_dl_piece i ds ≡ some d → suc (len (filter (another i) ds)) ≡ len ds
unfolding filter find_dl_piece len
size_drop lo i d [] r h = absurd (none-ne-some d h)
size_drop lo i d (x ∷ xs) r h = elim (ℕ_discrete x.piece i) [
  | yes e ↦
      rw (another_no i x e)
      (ap (λ (l : List DownloadingPiece). suc (length l)) (drop-none i xs (find_dl_piece_below (suc x.piece) i xs (from_tail lo x xs r) (omega arith))))
  | no n ↦
      rw (another_yes i x n)
      (ap suc (size_drop (suc x.piece) i d xs (from_tail lo x xs r) (sym (find_dl_piece_there i x xs n) ∙ h)))
]

-- ---- the list from what is found
-- a first one with a lower piece is not found in the other list
apart : (lo lo' : ℕ) (d e : DownloadingPiece) (ds es : List DownloadingPiece) → partials_from lo' (e ∷ es) ≡ true → ((i : ℕ) → find_dl_piece i (d ∷ ds) ≡ find_dl_piece i (e ∷ es)) → d.piece < e.piece → ⊥
apart lo lo' d e ds es r f h =
    none-ne-some d (
    sym (find_dl_piece_below e.piece d.piece (e ∷ es) (from_cons e.piece e es (omega arith) (from_tail lo' e es r)) h)
    ∙ sym (f d.piece) ∙ find_dl_piece_here d.piece d ds refl
    )

-- two lists of rising pieces in which the same is found are one
pub partials_same : (lo lo' : ℕ) (ds es : List DownloadingPiece) → partials_from lo ds ≡ true → partials_from lo' es ≡ true → ((i : ℕ) → find_dl_piece i ds ≡ find_dl_piece i es) → ds ≡ es
unfolding find_dl_piece
partials_same lo lo' [] [] r q f = refl
partials_same lo lo' [] (e ∷ es) r q f = absurd (none-ne-some e (f e.piece ∙ find_dl_piece_here e.piece e es refl))
partials_same lo lo' (d ∷ ds) [] r q f = absurd (none-ne-some d (sym (f d.piece) ∙ find_dl_piece_here d.piece d ds refl))
partials_same lo lo' (d ∷ ds) (e ∷ es) r q f = elim (three d.piece e.piece) [
  | inl h ↦ absurd (apart lo lo' d e ds es q f h)
  | inr p ↦ elim p [
    | inl h ↦ ap₂ (λ (x : DownloadingPiece) (xs : List DownloadingPiece). x ∷ xs)
        (some-injective d e (sym (find_dl_piece_here d.piece d ds refl) ∙ f d.piece ∙ find_dl_piece_here d.piece e es (sym h)))
        (partials_same (suc d.piece) (suc e.piece) ds es (from_tail lo d ds r) (from_tail lo' e es q) (λ i. elim (ℕ_discrete d.piece i) [
          | yes k ↦
              find_dl_piece_below (suc d.piece) i ds (from_tail lo d ds r) (omega arith)
              ∙ sym (find_dl_piece_below (suc e.piece) i es (from_tail lo' e es q) (omega arith))
          | no n ↦
              sym (find_dl_piece_there i d ds n) ∙ f i ∙ find_dl_piece_there i e es (λ (k : e.piece ≡ i). n (h ∙ k))
        ]))
    | inr h ↦ absurd (apart lo' lo e d es ds r (λ i. sym (f i)) h)
  ]
]

-- ---- by places
-- each partial of rising pieces is found under its own piece
pub find_dl_piece_at : (lo k : ℕ) (d : DownloadingPiece) (ds : List DownloadingPiece) → partials_from lo ds ≡ true → k < len ds → find_dl_piece (nth d ds k).piece ds ≡ some (nth d ds k)
unfolding nth len
find_dl_piece_at lo k d [] r h = absurd (omega arith)
find_dl_piece_at lo zero d (x ∷ xs) r h = find_dl_piece_here x.piece x xs refl
find_dl_piece_at lo (suc k) d (x ∷ xs) r h =
    let b = from_tail lo x xs r in
    let g = find_dl_piece_at (suc x.piece) k d xs b (le_of_suc-le-suc h) in
    elim (ℕ_discrete x.piece (get_or xs k d).piece) [
      | yes e ↦ absurd (none-ne-some (get_or xs k d) (sym (find_dl_piece_below (suc x.piece) (get_or xs k d).piece xs b (omega arith)) ∙ g))
      | no n ↦ find_dl_piece_there (get_or xs k d).piece x xs n ∙ g
    ]

-- what is found stands at a place
pub find_dl_piece_place : (i : ℕ) (d : DownloadingPiece) (ds : List DownloadingPiece) → find_dl_piece i ds ≡ some d → (k : ℕ) × (k < len ds) × (nth d ds k ≡ d)
unfolding nth len find_dl_piece
find_dl_piece_place i d [] h = absurd (none-ne-some d h)
find_dl_piece_place i d (x ∷ xs) h = elim (ℕ_discrete x.piece i) [
  | yes e ↦ (0, omega arith, some-injective x d (sym (find_dl_piece_here i x xs e) ∙ h))
  | no n ↦ (let r = find_dl_piece_place i d xs (sym (find_dl_piece_there i x xs n) ∙ h) in (suc r.0, omega (arith, r.1), r.2))
]

-- ---- on a picker
module _ (s : Picker) where
  -- all replaced
  pub partial_of-with_partials : (ds : List DownloadingPiece) (i : ℕ) → partial_of (with_partials ds s) i ≡ find_dl_piece i ds
  unfolding partial_of with_partials
  partial_of-with_partials ds i = refl

  -- one replaced: the new one is found where one stood
  pub partial_of_put_same : (i : ℕ) (d e : DownloadingPiece) → d.piece ≡ i → partial_of s i ≡ some e → partial_of (replace_partial d s) i ≡ some d
  unfolding partial_of replace_partial with_partials
  partial_of_put_same i d e p h = find_dl_piece_put_same i d e s.partials p h

  -- and other pieces have what they had
  pub partial_of_put_other : (i : ℕ) (d : DownloadingPiece) → d.piece ≢ i → partial_of (replace_partial d s) i ≡ partial_of s i
  unfolding partial_of replace_partial with_partials
  partial_of_put_other i d n = find_dl_piece_put_other i d s.partials n

  -- one added: it is found where none stood
  pub partial_of_add_same : (i : ℕ) → partial_of s i ≡ none → partial_of (add_partial i s) i ≡ some (fresh_partial s i)
  unfolding partial_of add_partial with_partials fresh_partial
  partial_of_add_same i h = find_dl_piece_insert_same i (fresh_partial s i) s.partials refl h

  -- and other pieces have what they had
  pub partial_of_add_other : (i k : ℕ) → i ≢ k → partial_of (add_partial i s) k ≡ partial_of s k
  unfolding partial_of add_partial with_partials fresh_partial
  partial_of_add_other i k n = find_dl_piece_insert_other k (fresh_partial s i) s.partials n

  -- one dropped: none stands
  pub partial_of_drop_same : (i : ℕ) → partial_of (drop_partial i s) i ≡ none
  unfolding partial_of drop_partial with_partials
  partial_of_drop_same i = find_dl_piece_drop_same i s.partials

  -- and other pieces have what they had
  pub partial_of_drop_other : (i k : ℕ) → k ≢ i → partial_of (drop_partial i s) k ≡ partial_of s k
  unfolding partial_of drop_partial with_partials
  partial_of_drop_other i k n = find_dl_piece_drop_other i k s.partials n

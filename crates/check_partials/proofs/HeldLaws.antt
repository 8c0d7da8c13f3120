-- Partials made of a function on their places: when their pieces rise, which is found, and for how many pieces one stands. Assumes nothing.
use mathlib.Core.Path.{◌≡◌, refl, sym, ap, ◌∙◌}
use mathlib.Core.Bool.{Bool, true, false, ◌||◌, or-true}
use mathlib.Core.List.{List, [], ◌∷◌}
use mathlib.Core.Option.{Option, none, some, some-injective, none-ne-some}
use Prim.Native.Nat.{ℕ, zero, suc, ◌≤◌, ◌<◌}
use native.Mathlib.Decide.{ℕ_discrete}
use native.Mathlib.Omega.{arith}
use lib.Dec.{eqb}
use borrow.Author.Tests.{eq-eqb, ne_eqb, eqb-true}
use Rattle.model.specs.Lists.{len}
use Rattle.model.specs.State.{DownloadingPiece}
use Rattle.model.specs.change.Partials.{find_dl_piece}
use Rattle.model.specs.image.Sound.{partials_from}
use Rattle.model.proofs.sound.PartialLaws.{find_dl_piece_here, find_dl_piece_there, find_dl_piece_below, from_head, from_tail, from_cons}
use Rattle.memory_layout.specs.Tables.{tabulate}
use Rattle.check_blocks.specs.Below.{count_below}
use Rattle.check_partials.specs.Records.{lowest}
use Rattle.check_blocks.proofs.BelowLaws.{count_same, count_none, count_either, count_one}

-- ---- rising pieces
pub rising_from_lem : (lo m : ℕ) (f : ℕ → DownloadingPiece) → ((k : ℕ) → k < m → lowest lo (λ j. (f j).piece) k ≤ (f k).piece)
    → partials_from lo (tabulate m f) ≡ true
unfolding partials_from tabulate lowest
rising_from_lem lo zero f h = refl
rising_from_lem lo (suc m) f h =
    from_cons lo (f zero) (tabulate m (λ j. f (suc j))) (h zero (omega arith)) (rising_from_lem (suc (f zero).piece) m (λ j. f (suc j)) later)
  where
    later : (k : ℕ) → k < m → lowest (suc (f zero).piece) (λ j. (f (suc j)).piece) k ≤ (f (suc k)).piece
    later zero l = h (suc zero) (omega arith)
    later (suc k) l = h (suc (suc k)) (omega arith)

pub from_rising : (lo m : ℕ) (f : ℕ → DownloadingPiece) → partials_from lo (tabulate m f) ≡ true → (k : ℕ) → k < m
    → lowest lo (λ j. (f j).piece) k ≤ (f k).piece
unfolding tabulate lowest
from_rising lo zero f h k l = absurd (omega arith)
from_rising lo (suc m) f h zero l = from_head lo (f zero) (tabulate m (λ j. f (suc j))) h
from_rising lo (suc m) f h (suc zero) l =
    from_rising (suc (f zero).piece) m (λ j. f (suc j)) (from_tail lo (f zero) (tabulate m (λ j. f (suc j))) h) zero (omega arith)
from_rising lo (suc m) f h (suc (suc k)) l =
    from_rising (suc (f zero).piece) m (λ j. f (suc j)) (from_tail lo (f zero) (tabulate m (λ j. f (suc j))) h) (suc k) (omega arith)

-- none is below the bound
pub rising_low : (lo m : ℕ) (f : ℕ → DownloadingPiece) → partials_from lo (tabulate m f) ≡ true → (k : ℕ) → k < m → lo ≤ (f k).piece
unfolding tabulate
rising_low lo zero f h k l = absurd (omega arith)
rising_low lo (suc m) f h zero l = from_head lo (f zero) (tabulate m (λ j. f (suc j))) h
rising_low lo (suc m) f h (suc k) l =
    let a = from_head lo (f zero) (tabulate m (λ j. f (suc j))) h in
    let d = rising_low (suc (f zero).piece) m (λ j. f (suc j)) (from_tail lo (f zero) (tabulate m (λ j. f (suc j))) h) k (omega arith) in
    omega (arith, a, d)

-- ---- finding
-- each is found by its piece
pub found_each : (lo m : ℕ) (f : ℕ → DownloadingPiece) → partials_from lo (tabulate m f) ≡ true → (k : ℕ) → k < m
    → find_dl_piece (f k).piece (tabulate m f) ≡ some (f k)
unfolding tabulate
found_each lo zero f h k l = absurd (omega arith)
found_each lo (suc m) f h zero l = find_dl_piece_here (f zero).piece (f zero) (tabulate m (λ j. f (suc j))) refl
found_each lo (suc m) f h (suc k) l =
    let r = from_tail lo (f zero) (tabulate m (λ j. f (suc j))) h in
    let d = rising_low (suc (f zero).piece) m (λ j. f (suc j)) r k (omega arith) in
    find_dl_piece_there (f (suc k)).piece (f zero) (tabulate m (λ j. f (suc j))) (λ e. absurd (omega (arith, d, e)))
    ∙ found_each (suc (f zero).piece) m (λ j. f (suc j)) r k (omega arith)

-- what each has, what is found has
pub found_has : (Q : ℕ → DownloadingPiece → Type 0) (m : ℕ) (f : ℕ → DownloadingPiece) → ((k : ℕ) → k < m → Q (f k).piece (f k))
    → (i : ℕ) (d : DownloadingPiece) → find_dl_piece i (tabulate m f) ≡ some d → Q i d
unfolding tabulate find_dl_piece
found_has Q zero f h i d e = absurd (none-ne-some d e)
found_has Q (suc m) f h i d e = elim (ℕ_discrete (f zero).piece i) [
  | yes q ↦ (
      let s = some-injective (f zero) d (sym (find_dl_piece_here i (f zero) (tabulate m (λ j. f (suc j))) q) ∙ e) in
      rw (← q, ← s) (h zero (omega arith))
      )
  | no q ↦
      found_has Q m (λ j. f (suc j)) (λ k l. h (suc k) (omega arith)) i d
      (sym (find_dl_piece_there i (f zero) (tabulate m (λ j. f (suc j))) q) ∙ e)
]

-- ---- for how many pieces one stands
abbrev pub is_held : Option DownloadingPiece → Bool
is_held none = false
is_held (some d) = true

unfoldable pub held : List DownloadingPiece → ℕ → Bool
held ds i = is_held (find_dl_piece i ds)

pub held-none : (ds : List DownloadingPiece) (i : ℕ) → find_dl_piece i ds ≡ none → held ds i ≡ false
unfolding held
held-none ds i e = ap is_held e

pub held-some : (ds : List DownloadingPiece) (i : ℕ) (d : DownloadingPiece) → find_dl_piece i ds ≡ some d → held ds i ≡ true
unfolding held
held-some ds i d e = ap is_held e

held_cons : (d : DownloadingPiece) (ds : List DownloadingPiece) (i : ℕ) → held (d ∷ ds) i ≡ (eqb d.piece i || held ds i)
unfolding held
held_cons d ds i = elim (ℕ_discrete d.piece i) [
  | yes e ↦ rw (find_dl_piece_here i d ds e, eq-eqb d.piece i e)
  | no n ↦ rw (find_dl_piece_there i d ds n, ne_eqb d.piece i n)
]

pub count_held : (lo n : ℕ) (ds : List DownloadingPiece) → partials_from lo ds ≡ true → ((i : ℕ) → held ds i ≡ true → i < n)
    → count_below (held ds) n ≡ len ds
unfolding len find_dl_piece held
count_held lo n [] h b = count_none (held []) n (λ k l. refl)
count_held lo n (d ∷ ds) h b =
    let r = from_tail lo d ds h in
    let here = b d.piece (held-some (d ∷ ds) d.piece d (find_dl_piece_here d.piece d ds refl)) in
    let apart : (k : ℕ) → k < n → eqb d.piece k ≡ true → held ds k ≡ false =
    λ k l e. let q = eqb-true d.piece k e in held-none ds k (find_dl_piece_below (suc d.piece) k ds r (omega (arith, q))) in
    let tail : (i : ℕ) → held ds i ≡ true → i < n = λ i e. b i (held_cons d ds i ∙ rw (e, or-true)) in
    count_same (held (d ∷ ds)) (λ i. eqb d.piece i || held ds i) n (λ k l. held_cons d ds k)
    ∙ count_either (eqb d.piece) (held ds) n apart
    ∙ omega (arith, count_one d.piece n here, count_held (suc d.piece) n ds r tail)

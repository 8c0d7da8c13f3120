-- What holds of each partial that is found holds of every partial, and the other way. Assumes nothing.
use mathlib.Core.Path.{◌≡◌, refl}
use mathlib.Core.Logic.{◌⊎◌, inl, inr, ⊎_elim}
use Prim.Native.Nat.{ℕ, suc, ◌-◌, ◌≤◌}
use native.Mathlib.Omega.{arith}
use mathlib.Core.Bool.{Bool, true, false, cond}
use mathlib.Core.List.{List, [], ◌∷◌}
use mathlib.Core.Option.{Option, none, some}
use lib.Dec.{eqb, ltb}
use borrow.Author.Tests.{eqb-true, eq-eqb, ne_eqb, ltb-true}
use Rattle.model.specs.Lists.{every}
use Rattle.model.specs.State.{DownloadingPiece}
use Rattle.model.specs.change.Partials.{find_dl_piece}
use Rattle.model.specs.image.Sound.{partials_from}
use Rattle.model.proofs.base.Truths.{and_left, and_right, true_both}

nothing : {C : Type 0} (d : DownloadingPiece) → none ≡ some d → C
nothing d e = let z : ◌≡◌ {A = ℕ} 0 1 = cc in absurd (omega arith)

-- the first partial is the one found, or the rest has it
first_or_rest : (b : Bool) (c d : DownloadingPiece) (o : Option DownloadingPiece) → cond b (some c) o ≡ some d → ((b ≡ true) × (c ≡ d)) ⊎ ((b ≡ false) × (o ≡ some d))
first_or_rest true c d o e = let p : c ≡ d = cc in inl (refl, p)
first_or_rest false c d o e = inr (refl, e)

found_from : (lo i : ℕ) (d : DownloadingPiece) (ds : List DownloadingPiece) → partials_from lo ds ≡ true → find_dl_piece i ds ≡ some d → lo ≤ i
unfolding partials_from find_dl_piece
found_from lo i d [] h g = nothing d g
found_from lo i d (e ∷ ds) h g =
    let l = ltb-true lo (suc e.piece) (and_left (ltb lo (suc e.piece)) (partials_from (suc e.piece) ds) h) in
    let r = and_right (ltb lo (suc e.piece)) (partials_from (suc e.piece) ds) h in
    ⊎_elim (λ x. let q = eqb-true e.piece i x.0 in omega arith) (λ x. let q = found_from (suc e.piece) i d ds r x.1 in omega arith)
    (first_or_rest (eqb e.piece i) e d (find_dl_piece i ds) g)

-- what holds of each partial that is found holds of every partial
pub every_found : (ok : DownloadingPiece → Bool) (lo : ℕ) (ds : List DownloadingPiece) → partials_from lo ds ≡ true
    → ((i : ℕ) (d : DownloadingPiece) → find_dl_piece i ds ≡ some d → ok d ≡ true) → every ok ds ≡ true
unfolding partials_from find_dl_piece every
every_found ok lo [] h f = refl
every_found ok lo (d ∷ ds) h f =
    let r = and_right (ltb lo (suc d.piece)) (partials_from (suc d.piece) ds) h in
    true_both (ok d) (every ok ds) (f d.piece d (rw (eq-eqb d.piece d.piece refl)))
    (every_found ok (suc d.piece) ds r
    (λ i e g. let l = found_from (suc d.piece) i e ds r g in f i e (rw (ne_eqb d.piece i (λ q. omega arith)) g)))

-- and the other way
pub found_every : (ok : DownloadingPiece → Bool) (ds : List DownloadingPiece) → every ok ds ≡ true → (i : ℕ) (d : DownloadingPiece) → find_dl_piece i ds ≡ some d → ok d ≡ true
unfolding find_dl_piece every
found_every ok [] h i d e = nothing d e
found_every ok (c ∷ ds) h i d e =
    ⊎_elim (λ x. rw x.1 at (and_left (ok c) (every ok ds) h)) (λ x. found_every ok ds (and_right (ok c) (every ok ds) h) i d x.1)
    (first_or_rest (eqb c.piece i) c d (find_dl_piece i ds) e)

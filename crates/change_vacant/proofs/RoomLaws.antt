-- Where a piece without a partial may be opened there is room for one more: as many places as pieces, or 512. Assumes nothing.
use mathlib.Core.Path.{◌≡◌, refl, sym, ◌∙◌}
use mathlib.Core.Logic.{⊎_elim}
use mathlib.Core.Bool.{true, false}
use mathlib.Core.List.{List, [], ◌∷◌}
use mathlib.Core.Option.{none, some, none-ne-some}
use Prim.Native.Nat.{ℕ, suc, ◌+◌, ◌≤◌, ◌<◌}
use native.Mathlib.Decide.{dec_le}
use native.Mathlib.Omega.{arith}
use borrow.Author.Tests.{leb-false}
use Rattle.model.specs.Lists.{len}
use Rattle.model.specs.State.{DownloadingPiece, Picker, max_partials, piece_at, pieces_in}
use Rattle.model.specs.change.Partials.{find_dl_piece, partial_of, fresh_partial, insert_in}
use Rattle.model.specs.image.Sound.{Sound, partials_from}
use Rattle.model.specs.Calls.{no_partial_left}
use Rattle.model.proofs.sound.PartialLaws.{found_or_none, find_dl_piece_here, find_dl_piece_there, from_head, from_tail}
use Rattle.model.proofs.sound.PartialLaws.{find_dl_piece_insert_other, size_insert, from_insert}
use Rattle.model.proofs.sound.SoundBody.{within, sound_standing}

-- partials by rising piece, none of a piece from n on
rising_few : (n lo : ℕ) (ds : List DownloadingPiece) → partials_from lo ds ≡ true → lo ≤ n
    → ((k : ℕ) → n ≤ k → find_dl_piece k ds ≡ none) → lo + len ds ≤ n
unfolding len
rising_few n lo [] r l h = omega arith
rising_few n lo (d ∷ ds) r l h =
    let m = rising_few n (suc d.piece) ds (from_tail lo d ds r) below later in
    omega (arith, m, from_head lo d ds r)
  where
    below : d.piece < n
    below = elim (dec_le n d.piece) [
      | yes e ↦ absurd (none-ne-some d (sym (h d.piece e) ∙ find_dl_piece_here d.piece d ds refl))
      | no e ↦ omega arith
    ]

    later : (k : ℕ) → n ≤ k → find_dl_piece k ds ≡ none
    later k e = sym (find_dl_piece_there k d ds (λ (q : d.piece ≡ k). absurd (omega (arith, q, below)))) ∙ h k e

-- so there are fewer partials than pieces where one has none
pub one_without : (d : Picker) (i : ℕ) → Sound d → i < pieces_in d → partial_of d i ≡ none → len d.partials < pieces_in d
unfolding partial_of fresh_partial
one_without d i v h e =
    let x = fresh_partial d i in
    let m = rising_few (pieces_in d) 0 (insert_in x d.partials) (from_insert 0 x d.partials (omega arith) e v.rising) (omega arith)
    past in
    omega (arith, m, size_insert x d.partials)
  where
    none_past : (k : ℕ) → pieces_in d ≤ k → partial_of d k ≡ none
    none_past k l = ⊎_elim (λ (n : find_dl_piece k d.partials ≡ none). n)
        (λ (f : (q : DownloadingPiece) × (find_dl_piece k d.partials ≡ some q)).
        absurd (omega (arith, l, within d k (sound_standing d k f.0 v f.1)))) (found_or_none k d.partials)

    past : (k : ℕ) → pieces_in d ≤ k → find_dl_piece k (insert_in (fresh_partial d i) d.partials) ≡ none
    past k l =
        find_dl_piece_insert_other k (fresh_partial d i) d.partials (λ (q : i ≡ k). absurd (omega (arith, q, h, l))) ∙ none_past k l

-- and not 512 where one may be opened
pub not_all : (d : Picker) (i : ℕ) → Sound d → partial_of d i ≡ none → (piece_at d i).flushed ≡ false → no_partial_left d i ≡ false
    → len d.partials < max_partials
unfolding no_partial_left
not_all d i v e f n = leb-false max_partials (len d.partials) (rw (v.standing i e, f) at n)

-- Blocks set aside: block by block or all at once it is the same list, and of n wanted there are never more than n + 255. Assumes nothing.
use mathlib.Core.Path.{◌≡◌, refl, sym, ap, ◌∙◌}
use Prim.Native.Nat.{ℕ, suc, ◌+◌, ◌≤◌}
use native.Mathlib.Omega.{arith}
use mathlib.Core.Bool.{Bool, false}
use mathlib.Core.List.{List, [], ◌∷◌, ◌++◌, append_assoc, append-nil}
use lib.ListN.{length, length-append}
use borrow.Author.Tests.{leb-false}
use Rattle.model.specs.Lists.{from, filter, each, len, for_each}
use Rattle.model.specs.State.{DownloadingPiece}
use Rattle.model.specs.pick.Blocks.{PickState, with_backup, piece_block, enough_aside, put_aside, free_from, set_aside}
use Rattle.model.proofs.base.Counts.{length-from, length-filter, count_le}
use Rattle.model.proofs.base.Phases.{unless_arms}

length-each : {A B : Type 0} (f : A → B) (l : List A) → length (each f l) ≡ length l
unfolding each
length-each f [] = refl
length-each f (x ∷ l) = ap suc (length-each f l)

-- a filter leaves no more
pub filter_size : {A : Type 0} (t : A → Bool) (l : List A) (n : ℕ) → length l ≡ n → length (filter t l) ≤ n
filter_size t l n e = omega (arith, length-filter t l, count_le t l)

-- a piece has no more free blocks than blocks
pub free_size : (d : DownloadingPiece) (first : ℕ) → len (free_from d first) ≤ len d.blocks
unfolding free_from len
free_size d first = filter_size _ _ (length d.blocks) (length-each _ (from 0 (length d.blocks)) ∙ length-from 0 (length d.blocks))

-- ---- block by block
-- the steps together append the list of the blocks
pub put_aside_all : (i : ℕ) (js : List ℕ) (w : PickState) → for_each (put_aside i) js w ≡ with_backup (w.backup ++ each (piece_block i) js) w
unfolding for_each each put_aside with_backup
put_aside_all i [] w = ap (λ bs. with_backup bs w) (sym (append-nil w.backup))
put_aside_all i (j ∷ js) w =
    put_aside_all i js (put_aside i j w) ∙ ap (λ bs. with_backup bs w) (append_assoc w.backup (piece_block i j ∷ []) (each (piece_block i) js))

-- the blocks of a partial are set aside, or enough are there
pub aside_arms : (I : PickState → Type 0) (d : DownloadingPiece) (first : ℕ) (w : PickState) → I w
    → (enough_aside w ≡ false → I (with_backup (w.backup ++ each (piece_block d.piece) (free_from d first)) w)) → I (set_aside d first w)
unfolding set_aside
aside_arms I d first w h f =
    unless_arms I (enough_aside w) (for_each (put_aside d.piece) (free_from d first)) w
    (λ e. rw (put_aside_all d.piece (free_from d first) w) (f e)) (λ e. h)

-- ---- the bound
-- the most blocks that are ever set aside of n wanted: one less, and then a whole piece
abbrev pub most_aside : ℕ → ℕ
most_aside n = n + 255

-- where fewer are set aside than are wanted, a partial's blocks still fit
pub added_most : (n : ℕ) (d : DownloadingPiece) (first : ℕ) (w : PickState) → enough_aside w ≡ false → w.left ≤ n → len d.blocks ≤ 256
    → len (w.backup ++ each (piece_block d.piece) (free_from d first)) ≤ most_aside n
unfolding enough_aside len
added_most n d first w e l k =
    omega (
      arith,
      leb-false w.left (length w.backup) e,
      length-append w.backup (each (piece_block d.piece) (free_from d first)),
      length-each (piece_block d.piece) (free_from d first),
      free_size d first,
    )

-- setting a partial's blocks aside keeps the bound
pub aside_most : (n : ℕ) (d : DownloadingPiece) (first : ℕ) (w : PickState) → w.left ≤ n → len d.blocks ≤ 256
    → len w.backup ≤ most_aside n → len (set_aside d first w).backup ≤ most_aside n
unfolding with_backup
aside_most n d first w l k h = aside_arms (λ v. len v.backup ≤ most_aside n) d first w h (λ e. added_most n d first w e l k)

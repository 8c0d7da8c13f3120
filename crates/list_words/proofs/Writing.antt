-- What the words of pieces hold, where each piece is below 65,536. Assumes nothing.
use mathlib.Core.Path.{◌≡◌, refl, ap, ◌∙◌}
use mathlib.Core.List.{List, [], ◌∷◌}
use Prim.Native.Nat.{ℕ, suc, ◌<◌}
use native.Mathlib.Omega.{arith}
use lib.ListN.{length, get_or, length-map}
use Rattle.model.specs.Lists.{each}
use Rattle.model.proofs.list.GroupTurns.{each-map}
use Rattle.list_entries.specs.Words.{list_word, pieces_of, ranks_of, words_of, RanksIn}
use Rattle.list_entries.proofs.WordLaws.{piece_of_word, rank_of_word}

module _ (r : ℕ → ℕ) where
  -- they have the pieces
  pub words_pieces : (l : List ℕ) → ((k : ℕ) → k < length l → get_or l k 0 < 65536) → pieces_of (words_of r l) ≡ l
  unfolding pieces_of words_of each
  words_pieces [] all = refl
  words_pieces (i ∷ l) all =
      rw (piece_of_word (r i) i (all 0 (omega arith))) (ap (λ (m : List ℕ). i ∷ m) (words_pieces l (λ k h. all (suc k) (omega arith))))

  -- and their ranks beside them
  pub words_ranks : (l : List ℕ) → ((k : ℕ) → k < length l → get_or l k 0 < 65536) → RanksIn r (words_of r l)
  unfolding pieces_of ranks_of words_of each
  words_ranks [] all = refl
  words_ranks (i ∷ l) all =
      rw (piece_of_word (r i) i (all 0 (omega arith)), rank_of_word (r i) i (all 0 (omega arith)))
      (ap (λ (m : List ℕ). r i ∷ m) (words_ranks l (λ k h. all (suc k) (omega arith))))

  -- they are as many
  pub length_words : (l : List ℕ) → length (words_of r l) ≡ length l
  unfolding words_of
  length_words l = ap length (each-map (λ i. list_word (r i) i) l) ∙ length-map l (λ i. list_word (r i) i)

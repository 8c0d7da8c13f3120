-- A list that is listed under the ranks as they were, with those ranks in its words, is ready to be mended. Assumes nothing.
-- `b` gives the ranks as they were, `r` those after the change, which may differ for i alone; there are n pieces.
use mathlib.Core.Path.{◌≡◌, refl, sym, ap, ◌∙◌}
use mathlib.Core.Logic.{◌≢◌, ◌↔◌}
use mathlib.Core.List.{List, [], ◌∷◌, map}
use Prim.Native.Nat.{ℕ, zero, suc, ◌+◌, ◌≤◌, ◌<◌}
use native.Mathlib.Nat.{le_of_suc-le-suc}
use native.Mathlib.Decide.{dec_le, ℕ_discrete}
use native.Mathlib.Omega.{arith}
use lib.Dec.{eqb}
use lib.ListN.{length, get_or, drop, length-map}
use borrow.Author.Tests.{eq-eqb, ne_eqb}
use Rattle.model.specs.Lists.{bit, count}
use Rattle.model.specs.list.Listed.{Listed}
use Rattle.model.specs.list.Order.{added, updated}
use Rattle.model.proofs.base.Counts.{eq_bit, ne_bit}
use Rattle.model.proofs.list.GroupTurns.{length-placed}
use Rattle.model.proofs.list.GroupRise.{rising_is}
use Rattle.model.proofs.list.ListedMoves.{keys_same, updated_keeps}
use Rattle.model.proofs.list.ListedLaws.{listed_length_le}
use Rattle.list_entries.specs.Words.{listed_piece, listed_rank, list_word, pieces_of, RanksIn}
use Rattle.list_entries.proofs.WordLaws.{piece_of_word, word_of_both}
use Rattle.list_words.specs.Updating.{former, Ready}
use Rattle.list_words.proofs.Natural.{Same, ranks_same, same_ranks, pieces_map}
use Rattle.list_words.proofs.Mending.{former_same, former_other}

-- ---- ranks beside pieces, place by place
at_places : (r : ℕ → ℕ) (ws : List ℕ) → Same r ws → (k : ℕ) → k < length ws → listed_rank (get_or ws k 0) ≡ r (listed_piece (get_or ws k 0))
at_places r [] e k h = absurd (omega arith)
at_places r (w ∷ ws) e zero h = ap (λ (l : List ℕ). get_or l 0 0) e
at_places r (w ∷ ws) e (suc k) h = at_places r ws (ap (drop 1) e) k (le_of_suc-le-suc h)

from_places : (r : ℕ → ℕ) (ws : List ℕ) → ((k : ℕ) → k < length ws → listed_rank (get_or ws k 0) ≡ r (listed_piece (get_or ws k 0))) → Same r ws
from_places r [] all = refl
from_places r (w ∷ ws) all =
    rw (all 0 (omega arith)) (ap (λ (l : List ℕ). r (listed_piece w) ∷ l) (from_places r ws (λ k h. all (suc k) (omega arith))))

-- beside each piece stands its rank if that is so at each place
pub ranks_places : (r : ℕ → ℕ) (ws : List ℕ) → RanksIn r ws ↔ ((k : ℕ) → k < length ws
    → listed_rank (get_or ws k 0) ≡ r (listed_piece (get_or ws k 0)))
ranks_places r ws = (λ e. at_places r ws (ranks_same r ws e), λ all. same_ranks r ws (from_places r ws all))

-- the word of a piece stands as often as the piece
words_count : (b : ℕ → ℕ) (i : ℕ) (ws : List ℕ) → i < 65536 → Same b ws
    → count (eqb (list_word (b i) i)) ws ≡ count (eqb i) (map listed_piece ws)
unfolding count
words_count b i [] h e = refl
words_count b i (w ∷ ws) h e =
    let rest = words_count b i ws h (ap (drop 1) e) in
    let rank : listed_rank w ≡ b (listed_piece w) = ap (λ (l : List ℕ). get_or l 0 0) e in
    elim (ℕ_discrete i (listed_piece w)) [
      | yes q ↦ (
          let word : list_word (b i) i ≡ w = rw q (rw (← rank) (word_of_both w)) in
          omega (arith, rest, eq_bit (list_word (b i) i) w word, eq_bit i (listed_piece w) q)
          )
      | no q ↦ omega (
        arith,
        rest,
        ne_bit (list_word (b i) i) w (λ f. q (sym (piece_of_word (b i) i h) ∙ ap listed_piece f)),
        ne_bit i (listed_piece w) q,
      )
    ]

-- a piece without a rank could be added, and the list would be no longer than there are pieces
grown : (b : ℕ → ℕ) (i : ℕ) (ps : List ℕ) → b i ≡ 0 → length (updated (former b 1 i) [] 0 (b i) i ps) ≡ suc (length ps)
unfolding updated added
grown b i ps e =
    let one = former_same b 1 i in
    let d = ne_eqb (former b 1 i i) (b i) (λ (q : former b 1 i i ≡ b i). absurd (omega arith)) in
    rw (d, eq-eqb (b i) 0 e, length-placed)

shorter : (b : ℕ → ℕ) (n i : ℕ) (ps : List ℕ) → Listed b n ps → i < n → b i ≡ 0 → suc (length ps) ≤ n
shorter b n i ps g h e =
    let f = former b 1 i in
    let m = updated_keeps b f [] 0 (b i) i n ps (λ y q. former_other b 1 i y q) refl g h in
    omega (arith, listed_length_le f n (updated f [] 0 (b i) i ps) m, grown b i ps e)

module _ (b r : ℕ → ℕ) (n i : ℕ) (ws : List ℕ) (g : Listed b n (pieces_of ws)) (ranks : RanksIn b ws) (h : i < n) where
  same : Same b ws
  same = ranks_same b ws ranks

  -- it is ready
  pub listed_ready : n ≤ 65536 → Ready (b i) i ws
  listed_ready le = record {
    order = (rising_is listed_rank ws).1 (rw (same, ← pieces_map ws) ((rising_is b (pieces_of ws)).0 g.order));
    once = g.within i h;
    held = words_count b i ws (omega arith) same ∙ ap (count (eqb i)) (sym (pieces_map ws)) ∙ g.within i h;
  }

  -- its words hold the ranks as they were
  pub listed_former : ((other : ℕ) → other < n → other ≢ i → r other ≡ b other) → RanksIn (former r (b i) i) ws
  listed_former agree = same_ranks (former r (b i) i) ws (same ∙ sym (keys_same b (former r (b i) i) (map listed_piece ws) were))
    where
      were : (y : ℕ) → 1 ≤ count (eqb y) (map listed_piece ws) → former r (b i) i y ≡ b y
      were y q = elim (ℕ_discrete y i) [
        | yes e ↦ rw e (former_same r (b i) i)
        | no e ↦ elim (dec_le n y) [
          | yes f ↦ (let z = rw (pieces_map ws) at (g.beyond y f) in absurd (omega arith))
          | no f ↦ former_other r (b i) i y e ∙ agree y (omega arith) e
        ]
      ]

  -- and there is room for i in as many words as there are pieces
  pub listed_room : (words : ℕ) → n ≤ words → length ws + bit (eqb (b i) 0) ≤ words
  listed_room words le =
      let long : length (pieces_of ws) ≡ length ws = ap length (pieces_map ws) ∙ length-map ws listed_piece in
      elim (ℕ_discrete (b i) 0) [
        | yes e ↦ omega (arith, eq_bit (b i) 0 e, shorter b n i (pieces_of ws) g h e)
        | no e ↦ omega (arith, ne_bit (b i) 0 e, listed_length_le b n (pieces_of ws) g)
      ]

-- Taking the pieces from words goes with every move: the definition on words, each of its own rank, is the definition on pieces.
-- Assumes nothing.
-- `r` gives the rank of each piece; words are `Same` where each has the rank of its piece.
use mathlib.Core.Path.{◌≡◌, refl, sym, ap, ap₂, ◌∙◌}
use mathlib.Core.Bool.{Bool, true, false, not, cond}
use mathlib.Core.List.{List, [], ◌∷◌, ◌++◌, map}
use Prim.Native.Nat.{ℕ, zero, suc, ◌+◌, ◌-◌}
use native.Mathlib.Decide.{ℕ_discrete}
use native.Mathlib.Omega.{arith}
use lib.Dec.{eqb, ltb}
use lib.ListN.{get_or, set, take, drop, get_or-map}
use lib.Seq.{slice}
use borrow.Author.Tests.{eq-eqb, ne_eqb}
use Rattle.model.specs.Lists.{bit, count, nth, set_nth, each, place_of}
use Rattle.model.specs.list.Order.{draw, carry, turn_left, bring, turn_right, placed, removed, earlier, later, swap}
use Rattle.model.specs.list.Order.{group_start, group_size, group_last, group_drawn, added, add_draws, changed, change_draws}
use Rattle.model.proofs.list.GroupTurns.{each-map, map_append, map-take, map-drop, stirred_right}
use Rattle.model.proofs.list.GroupMoves.{start_below, size_equal}
use Rattle.model.proofs.list.GroupRise.{below, equal}
use Rattle.list_entries.specs.Words.{listed_piece, listed_rank, pieces_of, ranks_of, RanksIn}

-- ---- words and their pieces
-- the pieces, by the library's name
pub pieces_map : (ws : List ℕ) → pieces_of ws ≡ map listed_piece ws
unfolding pieces_of
pieces_map ws = each-map listed_piece ws

-- the piece at a place
pub pieces_at : (ws : List ℕ) (k : ℕ) → get_or (map listed_piece ws) k 0 ≡ listed_piece (get_or ws k 0)
unfolding listed_piece
pieces_at ws k = get_or-map listed_piece ws k 0

-- a word stored
pub map-set : (f : ℕ → ℕ) (l : List ℕ) (k x : ℕ) → map f (set l k x) ≡ set (map f l) k (f x)
map-set f [] k x = refl
map-set f (y ∷ ys) zero x = refl
map-set f (y ∷ ys) (suc k) x = ap (λ (l : List ℕ). f y ∷ l) (map-set f ys k x)

-- each word has the rank of its piece
abbrev pub Same : (r : ℕ → ℕ) (ws : List ℕ) → Type 0
Same r ws = map listed_rank ws ≡ map r (map listed_piece ws)

map-cond : (t : Bool) (l m : List ℕ) → map listed_piece (cond t l m) ≡ cond t (map listed_piece l) (map listed_piece m)
map-cond true l m = refl
map-cond false l m = refl

module _ (r : ℕ → ℕ) (ws : List ℕ) where
  -- as the contract says it
  pub ranks_same : RanksIn r ws → Same r ws
  unfolding ranks_of pieces_of
  ranks_same e = sym (each-map listed_rank ws) ∙ e ∙ each-map r (each listed_piece ws) ∙ ap (map r) (each-map listed_piece ws)

  -- and back
  pub same_ranks : Same r ws → RanksIn r ws
  unfolding ranks_of pieces_of
  same_ranks e = each-map listed_rank ws ∙ e ∙ sym (each-map r (each listed_piece ws) ∙ ap (map r) (each-map listed_piece ws))

module _ (r : ℕ → ℕ) where
  -- a word whose rank is not its piece's
  abbrev pub wrong : ℕ → Bool
  wrong w = not (eqb (listed_rank w) (r (listed_piece w)))

  same_head : (w : ℕ) (ws : List ℕ) → Same r (w ∷ ws) → listed_rank w ≡ r (listed_piece w)
  same_head w ws e = ap (λ (l : List ℕ). get_or l 0 0) e

  same_tail : (w : ℕ) (ws : List ℕ) → Same r (w ∷ ws) → Same r ws
  same_tail w ws e = ap (drop 1) e

  -- no word is wrong
  pub same_count : (ws : List ℕ) → Same r ws → count wrong ws ≡ 0
  unfolding count
  same_count [] e = refl
  same_count (w ∷ ws) e = rw (eq-eqb (listed_rank w) (r (listed_piece w)) (same_head w ws e))
      (omega (arith, same_count ws (same_tail w ws e)))

  -- and back
  pub count_same : (ws : List ℕ) → count wrong ws ≡ 0 → Same r ws
  unfolding count
  count_same [] e = refl
  count_same (w ∷ ws) e = elim (ℕ_discrete (listed_rank w) (r (listed_piece w))) [
    | yes q ↦ (
        let f = rw (eq-eqb (listed_rank w) (r (listed_piece w)) q) at e in
        ap₂ (λ (c : ℕ) (cs : List ℕ). c ∷ cs) q (count_same ws (omega (arith, f)))
        )
    | no q ↦ (let f = rw (ne_eqb (listed_rank w) (r (listed_piece w)) q) at e in absurd (omega (arith, f)))
  ]

  same_take : (n : ℕ) (ws : List ℕ) → Same r ws → Same r (take n ws)
  same_take n ws e = map-take listed_rank n ws ∙ ap (take n) e ∙ sym (ap (map r) (map-take listed_piece n ws)
      ∙ map-take r n (map listed_piece ws))

  same_drop : (n : ℕ) (ws : List ℕ) → Same r ws → Same r (drop n ws)
  same_drop n ws e = map-drop listed_rank n ws ∙ ap (drop n) e ∙ sym (ap (map r) (map-drop listed_piece n ws)
      ∙ map-drop r n (map listed_piece ws))

  -- ---- turning
  carry_pieces : (h : ℕ) (ws : List ℕ) → listed_rank h ≡ r (listed_piece h) → Same r ws
      → map listed_piece (carry listed_rank h ws) ≡ carry r (listed_piece h) (map listed_piece ws)
  unfolding carry
  carry_pieces h [] q e = refl
  carry_pieces h (w ∷ ws) q e =
      let f = same_head w ws e in
      let t = same_tail w ws e in
      elim (ℕ_discrete (listed_rank w) (listed_rank h)) [
        | yes a ↦ rw (eq-eqb (listed_rank w) (listed_rank h) a, eq-eqb (r (listed_piece w)) (r (listed_piece h)) (sym f ∙ a ∙ q))
            (ap (λ (l : List ℕ). listed_piece w ∷ l) (carry_pieces h ws q t))
        | no a ↦ rw (ne_eqb (listed_rank w) (listed_rank h) a, ne_eqb (r (listed_piece w)) (r (listed_piece h)) (λ c. a (f ∙ c ∙ sym q)))
            (ap (λ (l : List ℕ). listed_piece h ∷ l) (carry_pieces w ws f t))
      ]

  left_pieces : (ws : List ℕ) → Same r ws → map listed_piece (turn_left listed_rank ws) ≡ turn_left r (map listed_piece ws)
  unfolding turn_left
  left_pieces [] e = refl
  left_pieces (w ∷ ws) e = carry_pieces w ws (same_head w ws e) (same_tail w ws e)

  bring_pieces : (w : ℕ) (ws : List ℕ) → listed_rank w ≡ r (listed_piece w) → Same r ws
      → map listed_piece (bring listed_rank w ws) ≡ bring r (listed_piece w) (map listed_piece ws)
  unfolding bring
  bring_pieces w [] q e = refl
  bring_pieces w (h ∷ ws) q e =
      let f = same_head h ws e in
      elim (ℕ_discrete (listed_rank w) (listed_rank h)) [
        | yes a ↦ rw (eq-eqb (listed_rank w) (listed_rank h) a, eq-eqb (r (listed_piece w)) (r (listed_piece h)) (sym q ∙ a ∙ f))
        | no a ↦ rw (ne_eqb (listed_rank w) (listed_rank h) a, ne_eqb (r (listed_piece w)) (r (listed_piece h)) (λ c. a (q ∙ c ∙ sym f)))
      ]

  same_right : (ws : List ℕ) → Same r ws → Same r (turn_right listed_rank ws)
  same_right ws e = count_same (turn_right listed_rank ws) ((stirred_right listed_rank ws).pieces wrong ∙ same_count ws e)

  right_pieces : (ws : List ℕ) → Same r ws → map listed_piece (turn_right listed_rank ws) ≡ turn_right r (map listed_piece ws)
  unfolding turn_right
  right_pieces [] e = refl
  right_pieces (w ∷ ws) e =
      bring_pieces w (turn_right listed_rank ws) (same_head w ws e) (same_right ws (same_tail w ws e))
      ∙ ap (bring r (listed_piece w)) (right_pieces ws (same_tail w ws e))

  -- ---- the moves
  pub placed_pieces : (k w : ℕ) (ws : List ℕ) → Same r ws → map listed_piece (placed listed_rank k w ws) ≡ placed r k (listed_piece w)
      (map listed_piece ws)
  unfolding placed
  placed_pieces k w ws e =
      map_append listed_piece (take k ws) (w ∷ turn_left listed_rank (drop k ws))
      ∙ rw (left_pieces (drop k ws) (same_drop k ws e), map-take listed_piece k ws, map-drop listed_piece k ws)

  pub removed_pieces : (k : ℕ) (ws : List ℕ) → Same r ws → map listed_piece (removed listed_rank k ws) ≡ removed r k (map listed_piece ws)
  unfolding removed
  removed_pieces k ws e =
      map_append listed_piece (take k ws) (turn_right listed_rank (drop (suc k) ws))
      ∙ rw (right_pieces (drop (suc k) ws) (same_drop (suc k) ws e), map-take listed_piece k ws, map-drop listed_piece (suc k) ws)

  same_slice : (a c : ℕ) (ws : List ℕ) → Same r ws → Same r (slice a c ws)
  same_slice a c ws e = same_drop a (take c ws) (same_take c ws e)

  slice_pieces : (a c : ℕ) (ws : List ℕ) → map listed_piece (slice a c ws) ≡ slice a c (map listed_piece ws)
  slice_pieces a c ws = map-drop listed_piece a (take c ws) ∙ ap (drop a) (map-take listed_piece c ws)

  pub earlier_pieces : (to k : ℕ) (ws : List ℕ) → Same r ws → map listed_piece (earlier listed_rank to k ws) ≡ earlier r to k
      (map listed_piece ws)
  unfolding earlier nth
  earlier_pieces to k ws e =
      map_append listed_piece (take to ws) (get_or ws k 0 ∷ (turn_left listed_rank (slice to k ws) ++ drop (suc k) ws))
      ∙ rw (
        map_append listed_piece (turn_left listed_rank (slice to k ws)) (drop (suc k) ws),
        left_pieces (slice to k ws) (same_slice to k ws e),
        slice_pieces to k ws,
        map-take listed_piece to ws,
        map-drop listed_piece (suc k) ws,
        pieces_at ws k,
      )

  pub later_pieces : (k to : ℕ) (ws : List ℕ) → Same r ws → map listed_piece (later listed_rank k to ws) ≡ later r k to (map listed_piece ws)
  unfolding later nth
  later_pieces k to ws e =
      map_append listed_piece (take k ws) (turn_right listed_rank (slice (suc k) (suc to) ws) ++ (get_or ws k 0 ∷ drop (suc to) ws))
      ∙ rw (
        map_append listed_piece (turn_right listed_rank (slice (suc k) (suc to) ws)) (get_or ws k 0 ∷ drop (suc to) ws),
        right_pieces (slice (suc k) (suc to) ws) (same_slice (suc k) (suc to) ws e),
        slice_pieces (suc k) (suc to) ws,
        map-take listed_piece k ws,
        map-drop listed_piece (suc to) ws,
        pieces_at ws k,
      )

  swap_pieces : (ws : List ℕ) (k m : ℕ) → map listed_piece (swap ws k m) ≡ swap (map listed_piece ws) k m
  unfolding swap nth set_nth
  swap_pieces ws k m =
      map-set listed_piece (set ws k (get_or ws m 0)) m (get_or ws k 0)
      ∙ rw (map-set listed_piece ws k (get_or ws m 0), pieces_at ws k, pieces_at ws m)

  -- ---- groups
  module _ (w : ℕ) (ws : List ℕ) (q : listed_rank w ≡ r (listed_piece w)) (e : Same r ws) where
    start_pieces : group_start listed_rank w ws ≡ group_start r (listed_piece w) (map listed_piece ws)
    start_pieces = start_below listed_rank w ws ∙ ap₂ below q e ∙ sym (start_below r (listed_piece w) (map listed_piece ws))

    size_pieces : group_size listed_rank w ws ≡ group_size r (listed_piece w) (map listed_piece ws)
    size_pieces = size_equal listed_rank w ws ∙ ap₂ equal q e ∙ sym (size_equal r (listed_piece w) (map listed_piece ws))

    pub added_pieces : (draws : List ℕ) (used : ℕ)
        → map listed_piece (added listed_rank draws used w ws) ≡ added r draws used (listed_piece w) (map listed_piece ws)
    unfolding added
    added_pieces draws used = rw (placed_pieces, start_pieces, size_pieces)

    pub add_draws_pieces : add_draws listed_rank w ws ≡ add_draws r (listed_piece w) (map listed_piece ws)
    unfolding add_draws
    add_draws_pieces = ap (λ (n : ℕ). bit (ltb 0 n)) size_pieces

    pub change_draws_pieces : change_draws listed_rank w ws ≡ change_draws r (listed_piece w) (map listed_piece ws)
    unfolding change_draws
    change_draws_pieces = ap (λ (n : ℕ). bit (ltb 1 n)) size_pieces

    pub changed_pieces : (draws : List ℕ) (used old : ℕ) → place_of w ws ≡ place_of (listed_piece w) (map listed_piece ws)
        → map listed_piece (changed listed_rank draws used old w ws) ≡ changed r draws used old (listed_piece w) (map listed_piece ws)
    unfolding changed group_last group_drawn
    changed_pieces draws used old p =
        let s = start_pieces in
        let z = size_pieces in
        let k = place_of w ws in
        let last = group_start listed_rank w ws + group_size listed_rank w ws - 1 in
        let first = group_start listed_rank w ws in
        let drawn = group_start listed_rank w ws + draw draws used (group_size listed_rank w ws - 1) in
        map-cond (ltb (listed_rank w) old) (swap (earlier listed_rank last k ws) last drawn) (swap (later listed_rank k first ws) first drawn)
        ∙ rw (
          swap_pieces (earlier listed_rank last k ws) last drawn,
          swap_pieces (later listed_rank k first ws) first drawn,
          earlier_pieces last k ws e,
          later_pieces k first ws e,
          ← s,
          ← z,
          ← p,
          q,
        )

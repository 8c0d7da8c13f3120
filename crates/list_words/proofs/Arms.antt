-- Each arm of `update`: what it leaves is `updated` on the pieces of the words, with the new ranks beside them. Assumes nothing.
use mathlib.Core.Path.{◌≡◌, refl, sym, ap, fun_ext, ◌∙◌}
use mathlib.Core.Logic.{◌≢◌}
use mathlib.Core.List.{List, ◌++◌, map}
use Prim.Native.Nat.{ℕ, suc, ◌+◌, ◌-◌, ◌≤◌, ◌<◌}
use native.Mathlib.Decide.{dec_le, ℕ_discrete}
use native.Mathlib.Omega.{arith}
use lib.Dec.{eqb}
use lib.ListN.{length, get_or, set, take, drop, length-map, take-append-drop, get_or-map}
use lib.Seq.{length-take-le, set-set, set-get_or, map-set_same, take-set-le, drop-set-lt}
use borrow.Author.Tests.{eq-eqb, ne_eqb}
use Rattle.model.specs.Lists.{bit, count, place_of, set_nth}
use Rattle.model.specs.list.Order.{added, add_draws, removed, changed, change_draws, updated, update_draws}
use Rattle.model.proofs.base.Counts.{lt_bit, ge_bit, eq_bit, place_in, at_place, place_only, permuted_length}
use Rattle.model.proofs.list.GroupTurns.{count-removed, length-placed, length-removed}
use Rattle.model.proofs.list.GroupRise.{Rising, rising_is}
use Rattle.model.proofs.list.GroupMoves.{count-added, changed_kept}
use Rattle.model.proofs.list.ListedMoves.{keys_same}
use Rattle.list_entries.specs.Words.{listed_piece, listed_rank, list_word, RanksIn}
use Rattle.list_groups.specs.Places.{Rises}
use Rattle.list_entries.proofs.WordLaws.{piece_of_word, rank_of_word}
use Rattle.list_words.specs.Updating.{former, Ready, IsUpdated, Updates}
use Rattle.list_changes.specs.Replacing.{replaced}
use Rattle.list_changes.proofs.Changing.{old_there, new_there, new_place, length-replaced}
use Rattle.list_words.proofs.Natural.{Same, ranks_same, same_count, count_same, wrong, pieces_map, pieces_at, map-set}
use Rattle.list_words.proofs.Natural.{removed_pieces, added_pieces, add_draws_pieces, changed_pieces, change_draws_pieces}
use Rattle.list_words.proofs.Mending.{rises_of, former_same, former_other, former_keys, arm}

-- ---- i stands in the list with its old rank
module _ (old new i : ℕ) (hi : i < 65536) (ws : List ℕ) (m : Ready old i ws) (h : 0 < old) where
  abbrev v : ℕ
  v = list_word old i

  abbrev w : ℕ
  w = list_word new i

  abbrev ps : List ℕ
  ps = map listed_piece ws

  abbrev k : ℕ
  k = place_of v ws

  once : count (eqb i) ps ≡ 1
  once = rw (pieces_map ws) at m.once ∙ lt_bit 0 old h

  -- its word is within the list
  pub word_in : k < length ws
  word_in = place_in v ws (omega (arith, m.held, lt_bit 0 old h))

  piece_there : get_or ps k 0 ≡ i
  piece_there = pieces_at ws k ∙ ap listed_piece (old_there v w ws word_in) ∙ piece_of_word old i hi

  -- where its piece is among the pieces
  pub piece_place : place_of i ps ≡ k
  piece_place = place_only i 0 ps k (omega (arith, once)) (omega (arith, word_in, length-map ws listed_piece)) piece_there

  -- the word of another rank is not in the list
  pub word_none : new ≢ old → count (eqb w) ws ≡ 0
  word_none ne = elim (dec_le 1 (count (eqb w) ws)) [
    | yes q ↦ (
        let there : get_or ps (place_of w ws) 0 ≡ i =
        pieces_at ws (place_of w ws) ∙ ap listed_piece (at_place w 0 ws q) ∙ piece_of_word new i hi in
        let same : k ≡ place_of w ws =
        sym piece_place ∙ place_only i 0 ps (place_of w ws) (omega (arith, once))
        (omega (arith, place_in w ws q, length-map ws listed_piece)) there in
        let words : v ≡ w = sym (old_there v w ws word_in) ∙ ap (λ (n : ℕ). get_or ws n 0) same ∙ at_place w 0 ws q in
        absurd (ne (sym (rank_of_word new i hi) ∙ ap listed_rank (sym words) ∙ rank_of_word old i hi))
        )
    | no q ↦ omega arith
  ]

  -- ---- with the new rank in its word
  pieces_replaced : map listed_piece (replaced v w ws) ≡ ps
  unfolding replaced set_nth
  pieces_replaced =
      map-set_same listed_piece ws k w 0
      (piece_of_word new i hi ∙ sym (ap listed_piece (old_there v w ws word_in) ∙ piece_of_word old i hi))

  module _ (r : ℕ → ℕ) (ei : r i ≡ new) (ranks : RanksIn (former r old i) ws) where
    same_replaced : Same r (replaced v w ws)
    unfolding replaced set_nth
    same_replaced =
        let there : get_or (map r ps) k (r 0) ≡ new = get_or-map r ps k 0 ∙ ap r piece_there ∙ ei in
        map-set listed_rank ws k w
        ∙ ap (λ (cs : List ℕ). set cs k (listed_rank w)) (ranks_same (former r old i) ws ranks
        ∙ former_keys r old i ps k (omega (arith, word_in, length-map ws listed_piece)) piece_there once)
        ∙ set-set (map r ps) k old (listed_rank w)
        ∙ ap (set (map r ps) k) (rank_of_word new i hi ∙ sym there)
        ∙ set-get_or (map r ps) k (r 0)
        ∙ ap (map r) (sym pieces_replaced)

    -- ---- i leaves
    removed_same : removed listed_rank k (replaced v w ws) ≡ removed listed_rank k ws
    unfolding removed replaced set_nth
    removed_same =
        let a : k ≤ k = omega arith in
        let c : k < suc k = omega arith in
        rw (take-set-le k ws k w, drop-set-lt (suc k) ws k w)

    pub removed_arm : (draws : List ℕ) (used : ℕ) (words words' : List ℕ) → new ≡ 0
        → words' ≡ removed listed_rank k ws ++ drop (length ws - 1) words
        → IsUpdated r draws used old i ws words words' (length ws - 1) used
    unfolding updated update_draws
    removed_arm draws used words words' z e =
        let differ = ne_eqb (r i) old (λ (f : r i ≡ old). absurd (omega (arith, ei))) in
        let some = ne_eqb old 0 (λ f. absurd (omega arith)) in
        let none = eq-eqb (r i) 0 (ei ∙ z) in
        arm r draws used old i ws words (removed listed_rank k ws) words' (length ws - 1) used e
        (omega (arith, length-removed listed_rank k ws word_in, word_in))
        (ap (map listed_piece) (sym removed_same) ∙ removed_pieces r k (replaced v w ws) same_replaced
        ∙ rw (pieces_replaced, pieces_map, differ, some, none, piece_place))
        (ap (map listed_rank) (sym removed_same) ∙ count_same r (removed listed_rank k (replaced v w ws))
        (omega (
          arith,
          count-removed listed_rank (wrong r) k (replaced v w ws) (omega (arith, word_in, length-replaced v w ws word_in)),
          same_count r (replaced v w ws) same_replaced,
        ))
        ∙ ap (λ (l : List ℕ). map r (map listed_piece l)) removed_same)
        (rw (differ, some, none) (omega arith))

    -- ---- i moves
    -- with the old rank at its place the ranks are those of the words as they were
    as_were : set (map listed_rank (replaced v w ws)) k (listed_rank v) ≡ map listed_rank ws
    unfolding replaced set_nth
    as_were =
        let there : get_or (map listed_rank ws) k (listed_rank 0) ≡ listed_rank v =
        get_or-map listed_rank ws k 0 ∙ ap listed_rank (old_there v w ws word_in) in
        ap (λ (cs : List ℕ). set cs k (listed_rank v)) (map-set listed_rank ws k w)
        ∙ set-set (map listed_rank ws) k (listed_rank w) (listed_rank v)
        ∙ ap (set (map listed_rank ws) k) (sym there)
        ∙ set-get_or (map listed_rank ws) k (listed_rank 0)

    rose : Rising 0 (set (map listed_rank (replaced v w ws)) k (listed_rank v))
    rose = rw as_were ((rising_is listed_rank ws).0 m.order)

    pub changed_arm : (draws : List ℕ) (used : ℕ) (words words' : List ℕ) (next : ℕ) → new ≢ 0 → new ≢ old
        → words' ≡ changed listed_rank draws used (listed_rank v) w (replaced v w ws) ++ drop (length ws) words
        → next ≡ used + change_draws listed_rank w (replaced v w ws) → IsUpdated r draws used old i ws words words' (length ws) next
    unfolding updated update_draws
    changed_arm draws used words words' next nz ne e en =
        let mended = replaced v w ws in
        let differ = ne_eqb (r i) old (λ (f : r i ≡ old). ne (sym ei ∙ f)) in
        let some = ne_eqb old 0 (λ f. absurd (omega arith)) in
        let some' = ne_eqb (r i) 0 (λ (f : r i ≡ 0). nz (sym ei ∙ f)) in
        let q : listed_rank w ≡ r (listed_piece w) = rank_of_word new i hi ∙ sym ei ∙ ap r (sym (piece_of_word new i hi)) in
        let place : place_of w mended ≡ k = new_place v w ws word_in (word_none ne) in
        let place' : place_of w mended ≡ place_of (listed_piece w) (map listed_piece mended) =
        place ∙ sym (rw (pieces_replaced, piece_of_word new i hi) piece_place) in
        let kept = changed_kept listed_rank mended draws used w (listed_rank v)
        (rw place (omega (arith, word_in, length-replaced v w ws word_in))) (rw place (new_there v w ws word_in))
        (rw place rose) (λ f. ne (sym (rank_of_word new i hi) ∙ f ∙ rank_of_word old i hi)) in
        arm r draws used old i ws words (changed listed_rank draws used (listed_rank v) w mended) words' (length ws) next e
        (permuted_length mended (changed listed_rank draws used (listed_rank v) w mended) kept.pieces ∙ length-replaced v w ws word_in)
        (changed_pieces r w mended q same_replaced draws used (listed_rank v) place'
        ∙ rw (pieces_replaced, pieces_map, differ, some, some', piece_of_word new i hi, rank_of_word old i hi))
        (count_same r (changed listed_rank draws used (listed_rank v) w mended) (kept.pieces (wrong r) ∙ same_count r mended same_replaced))
        (en ∙ ap (λ (d : ℕ). used + d) (change_draws_pieces r w mended q same_replaced)
        ∙ rw (pieces_replaced, pieces_map, differ, some, some', piece_of_word new i hi))

-- ---- i was not in the list, or stays where it is
module _ (old new i : ℕ) (hi : i < 65536) (ws : List ℕ) (m : Ready old i ws) (r : ℕ
    → ℕ) (ei : r i ≡ new) (ranks : RanksIn (former r old i) ws)
    (draws : List ℕ) (used : ℕ) (words : List ℕ) where
  -- the rank is the same
  pub same_arm : new ≡ old → words ≡ ws ++ drop (length ws) words → IsUpdated r draws used old i ws words words (length ws) used
  unfolding updated update_draws
  same_arm e el =
      let stays = eq-eqb (r i) old (ei ∙ e) in
      let all : former r old i ≡ r =
      fun_ext (λ other. elim (ℕ_discrete other i) [
        | yes f ↦ rw f (former_same r old i ∙ sym (ei ∙ e))
        | no f ↦ former_other r old i other f
      ]) in
      arm r draws used old i ws words ws words (length ws) used el refl (sym (pieces_map ws) ∙ rw stays)
      (ranks_same r ws (rw all at ranks)) (rw stays (omega arith))

  length-added : (w : ℕ) → length (added listed_rank draws used w ws) ≡ suc (length ws)
  unfolding added
  length-added w = length-placed listed_rank _ w ws

  -- i comes in
  pub added_arm : old ≡ 0 → new ≢ old → (words' : List ℕ) (next : ℕ)
      → words' ≡ added listed_rank draws used (list_word new i) ws ++ drop (suc (length ws)) words
      → next ≡ used + add_draws listed_rank (list_word new i) ws → IsUpdated r draws used old i ws words words' (suc (length ws)) next
  unfolding updated update_draws
  added_arm z ne words' next e en =
      let w = list_word new i in
      let ps = map listed_piece ws in
      let differ = ne_eqb (r i) old (λ (f : r i ≡ old). ne (sym ei ∙ f)) in
      let none = eq-eqb old 0 z in
      let q : listed_rank w ≡ r (listed_piece w) = rank_of_word new i hi ∙ sym ei ∙ ap r (sym (piece_of_word new i hi)) in
      let absent : count (eqb i) ps ≡ 0 = rw (pieces_map ws) at m.once ∙ ge_bit 0 old (omega arith) in
      let same : Same r ws =
      ranks_same (former r old i) ws ranks
      ∙ keys_same r (former r old i) ps
      (λ y g. former_other r old i y (λ (f : y ≡ i). let c : 1 ≤ count (eqb i) ps = rw f at g in absurd (omega arith))) in
      arm r draws used old i ws words (added listed_rank draws used w ws) words' (suc (length ws)) next e
      (length-added w)
      (added_pieces r w ws q same draws used ∙ rw (pieces_map, differ, none, piece_of_word new i hi))
      (count_same r (added listed_rank draws used w ws)
      (count-added listed_rank ws draws used w (wrong r)
      ∙ rw (eq-eqb (listed_rank w) (r (listed_piece w)) q) (omega (arith, same_count r ws same))))
      (en ∙ ap (λ (d : ℕ). used + d) (add_draws_pieces r w ws q same) ∙ rw (pieces_map, differ, none, piece_of_word new i hi))

-- ---- among all words that are lent
module _ (old new i n : ℕ) (l : List ℕ) (hi : i < 65536) (room : n + bit (eqb old 0) ≤ length l) (m : Ready old i (take n l)) where
  -- the list is within the words
  pub in_words : n ≤ length l
  in_words = omega arith

  long : length (take n l) ≡ n
  long = length-take-le n l in_words

  -- there is room for one more where i comes in
  pub one_more : old ≡ 0 → n < length l
  one_more z = omega (arith, eq_bit old 0 z)

  -- its ranks never fall
  pub words_rise : Rises 0 n l
  words_rise = rises_of n l in_words m.order

  -- i's word is within the list
  pub word_in_list : old ≢ 0 → place_of (list_word old i) (take n l) < n
  word_in_list nz = omega (arith, word_in old new i hi (take n l) m (omega (arith, nz)), long)

  -- a word of no rank but 0
  pub ranked : (rank : ℕ) → rank ≢ 0 → 0 < listed_rank (list_word rank i)
  ranked rank nz = omega (arith, nz, rank_of_word rank i hi)

  -- i's words have its two ranks
  pub ranks_differ : new ≢ old → listed_rank (list_word new i) ≢ listed_rank (list_word old i)
  ranks_differ ne e = ne (sym (rank_of_word new i hi) ∙ e ∙ rank_of_word old i hi)

  module _ (draws : List ℕ) (used : ℕ) where
    -- the rank is the same
    pub update_same : new ≡ old → Updates new draws used old i (take n l) l l n used
    update_same e r ei ranks =
        rw long at (same_arm old new i hi (take n l) m r ei ranks draws used l e (rw long (sym (take-append-drop n l))))

    -- i comes in
    pub update_added : old ≡ 0 → new ≢ old → (l' : List ℕ) (next : ℕ)
        → l' ≡ added listed_rank draws used (list_word new i) (take n l) ++ drop (suc n) l
        → next ≡ used + add_draws listed_rank (list_word new i) (take n l)
        → Updates new draws used old i (take n l) l l' (n + 1) next
    update_added z ne l' next e en r ei ranks =
        let one : suc (length (take n l)) ≡ n + 1 = omega (arith, long) in
        rw one at (added_arm old new i hi (take n l) m r ei ranks draws used l z ne l' next (rw long e) en)

    -- i leaves
    pub update_removed : old ≢ 0 → new ≡ 0 → (l' : List ℕ)
        → l' ≡ removed listed_rank (place_of (list_word old i) (take n l)) (take n l) ++ drop (n - 1) l
        → Updates new draws used old i (take n l) l l' (n - 1) used
    update_removed nz z l' e r ei ranks =
        rw long at (removed_arm old new i hi (take n l) m (omega (arith, nz)) r ei ranks draws used l l' z (rw long e))

    -- i moves
    pub update_changed : old ≢ 0 → new ≢ 0 → new ≢ old → (l' : List ℕ) (next : ℕ)
        → l' ≡ changed listed_rank draws used (listed_rank (list_word old i)) (list_word new i)
        (replaced (list_word old i) (list_word new i) (take n l)) ++ drop n l
        → next ≡ used + change_draws listed_rank (list_word new i) (replaced (list_word old i) (list_word new i) (take n l))
        → Updates new draws used old i (take n l) l l' n next
    update_changed nz nz' ne l' next e en r ei ranks =
        rw long at (changed_arm old new i hi (take n l) m (omega (arith, nz)) r ei ranks draws used l l' next nz' ne (rw long e) en)

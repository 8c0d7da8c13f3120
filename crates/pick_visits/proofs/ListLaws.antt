-- The lists of pieces that a pick walks, by their places: the bucket list forwards and backwards, its leading pieces of the top priority,
-- and ranges. Assumes nothing.
use mathlib.Core.Path.{◌≡◌, refl, sym, ap, ◌∙◌}
use mathlib.Core.Bool.{Bool, true, false, cond, ◌&&◌}
use mathlib.Core.List.{List, [], ◌∷◌, ◌++◌}
use mathlib.Core.Option.{none, some}
use Prim.Native.Nat.{ℕ, zero, suc, ◌+◌, ◌-◌, ◌≤◌, ◌<◌}
use native.Mathlib.Numerals.{add-one}
use native.Mathlib.Nat.{le_of_suc-le-suc, not-suc-le-zero}
use native.Mathlib.Omega.{arith}
use lib.ListN.{get_or, take, drop}
use lib.Seq.{drop-cons}
use lib.Dec.{eqb}
use borrow.Author.Tests.{le-leb, lt-leb}
use Rattle.model.specs.Lists.{nth, len, reversed, range, range_down, unless, branch, walk}
use Rattle.model.specs.State.{Picker, Listing, dirty, fresh, top_priority, list_of, piece_at, pieces_in, blocks_per_piece}
use Rattle.model.specs.list.Order.{rank, rank_of, bucket, bucket_number, unlisted}
use Rattle.model.specs.list.Listed.{ListingOf, ListingOk}
use Rattle.model.specs.Options.{reverse, prio_sequential_pieces, sequential_pieces, reverse_sequential, rarest_first_pieces, reverse_rarest_first}
use Rattle.model.specs.Options.{reverse_rare_loops, rare_loops}
use Rattle.model.specs.pick.Blocks.{PickRequest, PickState, option, spent, has_bit, is_piece_free}
use Rattle.model.specs.pick.Pick.{visit, leading_top, visit_below_top, pick_range, pick_sequential, rare_step, reverse_rare_step}
use Rattle.model.specs.image.Sound.{Sound}
use Rattle.model.proofs.base.Truths.{or_no_left, or_no_right}
use Rattle.model.proofs.list.ListedLaws.{listed_at_lt, listed_at_rank}
use Rattle.model.proofs.sound.SoundBody.{head_in}
use Rattle.memory_records.specs.Rows.{records_in}
use Rattle.memory_layout.specs.declared.shape.Shape.{Shape}
use Rattle.memory_layout.specs.Decode.{head_word, extents_held}
use Rattle.memory_layout.proofs.TableLaws.{tabulate-len}
use Rattle.memory_layout.proofs.Meanings.{pieces_number}
use Rattle.memory_fields.specs.Reading.{WordsSay, HeadSays}
use Rattle.memory_rows.specs.Lookup.{picker_in}
use Rattle.pick_state.specs.declared.numbers.PickNumbers.{PickNumbers}
use Rattle.pick_state.specs.declared.request.PickRequest.{PickRequest as Request}
use Rattle.pick_state.specs.PickStates.{state_of}
use Rattle.pick_free.specs.Picking.{Picks}
use Rattle.pick_free.proofs.FreeLaws.{blocks_each}
use Rattle.pick_visits.specs.Steps.{Stepped, SteppedBeside}
use Rattle.pick_visits.specs.Visits.{OnlyBit, counted_visit}
use Rattle.pick_visits.specs.Walks.{walk_top, walk_up, walk_down, walk_list, walk_list_back}
use Rattle.pick_visits.proofs.StepLaws.{stepped_then, stepped_as, did_spent, did_unspent}
use Rattle.pick_visits.proofs.VisitLaws.{picks_sound}

-- ---- what stands in the list
listed_in : (r : ℕ → ℕ) (n : ℕ) (x : Listing) → ListingOf r n x → (k : ℕ) → k < len (list_of x)
    → (nth 0 (list_of x) k < n) × (0 < r (nth 0 (list_of x) k))
unfolding list_of len
listed_in r n dirty h k l = absurd (omega arith)
listed_in r n (fresh xs) h k l = (listed_at_lt r n xs h k l, listed_at_rank r n xs h k l)

module _ (d : Picker) (h : Sound d) where
  -- a piece
  pub listed_piece_lem : (k : ℕ) → k < len (list_of d.listing) → nth 0 (list_of d.listing) k < pieces_in d
  unfolding ListingOk
  listed_piece_lem k l = (listed_in (rank d) (pieces_in d) d.listing h.list k l).0

  -- that is in a bucket
  listed_rank_lem : (k : ℕ) → k < len (list_of d.listing) → 0 < rank d (nth 0 (list_of d.listing) k)
  unfolding ListingOk
  listed_rank_lem k l = (listed_in (rank d) (pieces_in d) d.listing h.list k l).1

  -- a piece in a bucket is neither flushed nor filtered
  ranked_free : (a : PickRequest) (i : ℕ) → 0 < rank d i → is_piece_free a d i ≡ has_bit a i
  unfolding rank bucket rank_of unlisted is_piece_free
  ranked_free a i l = go (unlisted d.seeds (piece_at d i)) refl l
    where
      last : (b : Bool) → (b && true) ≡ b
      last true = refl
      last false = refl

      go : (b : Bool) → unlisted d.seeds (piece_at d i) ≡ b → 0 < rank_of (cond b none (some (bucket_number (piece_at d i))))
          → is_piece_free a d i ≡ has_bit a i
      go true e m = absurd (omega arith)
      go false e m =
          let f = or_no_left (piece_at d i).flushed _ (or_no_right (eqb (piece_at d i).priority 0) _ e) in
          let p = or_no_left (eqb (piece_at d i).priority 0) _ e in
          rw (f, p) (last (has_bit a i))

  -- so only its bit is left to ask
  pub listed_free : (a : PickRequest) (k : ℕ) → k < len (list_of d.listing)
      → is_piece_free a d (nth 0 (list_of d.listing) k) ≡ has_bit a (nth 0 (list_of d.listing) k)
  listed_free a k l = ranked_free a (nth 0 (list_of d.listing) k) (listed_rank_lem k l)

  -- the cursors are in the torrent
  pub cursors_in : (d.cursor ≤ pieces_in d) × (d.reverse_cursor ≤ pieces_in d)
  cursors_in = let g = head_in d h.head in (omega (arith, g.cursor, h.many), omega (arith, g.reverse_cursor, h.many))

-- ---- a list by its places
pub drop_next : (l : List ℕ) (k i : ℕ) → k < len l → i ≡ nth 0 l k → drop k l ≡ i ∷ drop (k + 1) l
unfolding nth len
drop_next l k i h e =
    drop-cons l k 0 h ∙ (ap (λ (n : ℕ). get_or l k 0 ∷ drop n l) (sym (add-one k)) ∙ ap (λ (n : ℕ). n ∷ drop (k + 1) l) (sym e))

pub drop-none : (l : List ℕ) (k : ℕ) → len l ≤ k → drop k l ≡ []
unfolding len
drop-none [] zero h = refl
drop-none [] (suc k) h = refl
drop-none (x ∷ xs) zero h = absurd (not-suc-le-zero h)
drop-none (x ∷ xs) (suc k) h = drop-none xs k (le_of_suc-le-suc h)

-- ---- its leading pieces of the top priority
module _ (d : Picker) (l : List ℕ) (k i : ℕ) (h : k < len l) (e : i ≡ nth 0 l k) where
  pub top_next : eqb (piece_at d i).priority top_priority ≡ true → leading_top d (drop k l) ≡ i ∷ leading_top d (drop (k + 1) l)
  unfolding leading_top
  top_next p = ap (leading_top d) (drop_next l k i h e) ∙ rw p refl

  pub top_stop : eqb (piece_at d i).priority top_priority ≡ false → leading_top d (drop k l) ≡ []
  unfolding leading_top
  top_stop p = ap (leading_top d) (drop_next l k i h e) ∙ rw p refl

pub top_none : (d : Picker) (l : List ℕ) (k : ℕ) → len l ≤ k → leading_top d (drop k l) ≡ []
unfolding leading_top
top_none d l k h = ap (leading_top d) (drop-none l k h)

-- ---- a list backwards
reversed_behind : (l : List ℕ) (x : ℕ) → reversed (l ++ (x ∷ [])) ≡ x ∷ reversed l
unfolding reversed
reversed_behind [] x = refl
reversed_behind (y ∷ ys) x = ap (λ (m : List ℕ). m ++ (y ∷ [])) (reversed_behind ys x)

take_behind : (l : List ℕ) (k : ℕ) → k < len l → take (suc k) l ≡ take k l ++ (nth 0 l k ∷ [])
unfolding nth len
take_behind [] k h = absurd (not-suc-le-zero h)
take_behind (x ∷ xs) zero h = refl
take_behind (x ∷ xs) (suc k) h = ap (λ (m : List ℕ). x ∷ m) (take_behind xs k (le_of_suc-le-suc h))

take_whole : (l : List ℕ) → take (len l) l ≡ l
unfolding len
take_whole [] = refl
take_whole (x ∷ xs) = ap (λ (m : List ℕ). x ∷ m) (take_whole xs)

pub back_start : (l : List ℕ) (n : ℕ) → n ≡ len l → reversed (take n l) ≡ reversed l
back_start l n e = ap reversed (ap (λ (m : ℕ). take m l) e ∙ take_whole l)

pub back_next : (l : List ℕ) (k i : ℕ) → 0 < k → k ≤ len l → i ≡ nth 0 l (k - 1) → reversed (take k l) ≡ i ∷ reversed (take (k - 1) l)
back_next l zero i h m e = absurd (omega arith)
back_next l (suc k) i h m e =
    let z : suc k - 1 ≡ k = omega arith in
    let f : i ≡ nth 0 l k = e ∙ ap (nth 0 l) z in
    rw z (ap reversed (take_behind l k m) ∙ (reversed_behind (take k l) (nth 0 l k) ∙ ap (λ (n : ℕ). n ∷ reversed (take k l)) (sym f)))

pub back_none : (l : List ℕ) (k : ℕ) → k ≡ 0 → reversed (take k l) ≡ []
unfolding reversed
back_none l k e = ap (λ (n : ℕ). reversed (take n l)) e

-- ---- a range backwards
pub down_next : (k e : ℕ) → k < e → range_down k e ≡ (e - 1) ∷ range_down k (e - 1)
unfolding range_down
down_next k zero h = absurd (not-suc-le-zero h)
down_next k (suc e) h = let z : suc e - 1 ≡ e = omega arith in rw (z, le-leb k e (le_of_suc-le-suc h)) refl

pub down_none : (k e : ℕ) → e ≤ k → range_down k e ≡ []
unfolding range_down
down_none k zero h = refl
down_none k (suc e) h = rw (lt-leb k e h) refl

-- ---- in a picker that stands
module _ {s : Shape} {live : ℕ} {rows words cells : List ℕ} {q : Request} (p : Picks s live rows words cells q) where
  -- what the words tell is told of the picker
  pub picks_words : {A : Type 0} (field : Picker → A) (r : A) → WordsSay s words field r → r ≡ field (picker_in live rows words cells)
  picks_words field r x = x.is (records_in live rows) cells p.asked.stands.bounds

  pub picks_head : {A : Type 0} (field : Picker → A) (r : A) → HeadSays words field r → r ≡ field (picker_in live rows words cells)
  picks_head field r x = x.is (records_in live rows) cells

  -- as many pieces as the shape says
  pub picks_pieces : pieces_in (picker_in live rows words cells) ≡ s.pieces
  picks_pieces = pieces_number s (records_in live rows) words cells p.asked.stands.bounds

  -- of as many blocks
  pub picks_blocks : blocks_per_piece (picker_in live rows words cells) ≡ s.blocks
  picks_blocks = blocks_each s (records_in live rows) words cells p.asked.stands.bounds

  -- as many extents as the head says
  pub extents_number : len (picker_in live rows words cells).recent_extents ≡ head_word words 8
  unfolding extents_held
  extents_number = tabulate-len (head_word words 8) (λ k. head_word words (9 + k))

  -- piece i at place k of the list
  module _ (k i : ℕ) (h : k < len (list_of (picker_in live rows words cells).listing))
      (e : i ≡ nth 0 (list_of (picker_in live rows words cells).listing) k) where
    pub place_piece : i < s.pieces
    place_piece = omega (arith, e, listed_piece_lem (picker_in live rows words cells) (picks_sound p) k h, picks_pieces)

    pub place_bit : (a : PickRequest) → OnlyBit a (picker_in live rows words cells) i
    unfolding OnlyBit
    place_bit a = rw e (listed_free (picker_in live rows words cells) (picks_sound p) a k h)

  -- the cursors are in the torrent
  pub picks_cursors : ((picker_in live rows words cells).cursor ≤ s.pieces) × ((picker_in live rows words cells).reverse_cursor ≤ s.pieces)
  picks_cursors =
      let g = cursors_in (picker_in live rows words cells) (picks_sound p) in
      (omega (arith, g.0, picks_pieces), omega (arith, g.1, picks_pieces))

-- ---- the walks by their names
module _ {d : Picker} {t r : PickNumbers} {out aside : List ℕ} {ignored : List Bool} {out' aside' : List ℕ} {ignored' : List Bool}
    (a : PickRequest) where
  pub as_top : SteppedBeside (walk (visit a prio_sequential_pieces) spent (leading_top d (list_of d.listing))) d t r out aside ignored out' aside' ignored'
      → SteppedBeside (walk_top a) d t r out aside ignored out' aside' ignored'
  unfolding walk_top state_of
  as_top x loops u = stepped_as (x loops u) (λ start h. refl)

  pub as_up : SteppedBeside (walk (visit_below_top a sequential_pieces) spent (range d.cursor d.reverse_cursor)) d t r out aside ignored out' aside' ignored'
      → SteppedBeside (walk_up a) d t r out aside ignored out' aside' ignored'
  unfolding walk_up state_of
  as_up x loops u = stepped_as (x loops u) (λ start h. refl)

  pub as_down : SteppedBeside (walk (visit_below_top a reverse_sequential) spent (range_down d.cursor d.reverse_cursor)) d t r out aside ignored out' aside' ignored'
      → SteppedBeside (walk_down a) d t r out aside ignored out' aside' ignored'
  unfolding walk_down state_of
  as_down x loops u = stepped_as (x loops u) (λ start h. refl)

  -- ---- the sequential phase
  pub range_down_lem : option reverse a ≡ true → SteppedBeside (walk_down a) d t r out aside ignored out' aside' ignored'
      → SteppedBeside (pick_range a) d t r out aside ignored out' aside' ignored'
  unfolding walk_down pick_range branch state_of
  range_down_lem e x loops u = stepped_as (x loops u) (λ start h. rw e)

  pub range_up : option reverse a ≡ false → SteppedBeside (walk_up a) d t r out aside ignored out' aside' ignored'
      → SteppedBeside (pick_range a) d t r out aside ignored out' aside' ignored'
  unfolding walk_up pick_range branch state_of
  range_up e x loops u = stepped_as (x loops u) (λ start h. rw e)

module _ {d : Picker} {t v : PickNumbers} {out aside : List ℕ} {ignored : List Bool} {out₁ aside₁ : List ℕ} {ignored₁ : List Bool}
    (a : PickRequest) (x : SteppedBeside (walk_top a) d t v out aside ignored out₁ aside₁ ignored₁) where
  pub sequential_stop : v.left ≡ 0 → SteppedBeside (pick_sequential a) d t v out aside ignored out₁ aside₁ ignored₁
  unfolding walk_top pick_sequential unless state_of
  sequential_stop z loops u = let y = x loops u in stepped_as y (λ start h. rw (did_spent y.did start h z))

  pub sequential_on : (v.left ≡ 0 → ⊥) → {r : PickNumbers} {out' aside' : List ℕ} {ignored' : List Bool}
      → SteppedBeside (pick_range a) d v r out₁ aside₁ ignored₁ out' aside' ignored'
      → SteppedBeside (pick_sequential a) d t r out aside ignored out' aside' ignored'
  unfolding walk_top pick_sequential unless state_of
  sequential_on n w loops u =
      let y = x loops u in
      stepped_as (stepped_then y (w loops y.underway)) (λ start h. rw (did_unspent y.did start h n))

-- ---- the list, by rarity
-- a piece of it is counted on one counter, and sets one flag
pub rare_named : (a : PickRequest) (i : ℕ) (w : PickState) → counted_visit a rare_loops rarest_first_pieces i w ≡ rare_step a i w
unfolding counted_visit rare_step
rare_named a i w = refl

pub reverse_named : (a : PickRequest) (i : ℕ) (w : PickState) → counted_visit a reverse_rare_loops reverse_rarest_first i w ≡ reverse_rare_step a i w
unfolding counted_visit reverse_rare_step
reverse_named a i w = refl

module _ {d : Picker} {t r : PickNumbers} {out aside : List ℕ} {ignored : List Bool} {loops : List ℕ} {out' aside' : List ℕ} {ignored' : List Bool}
    {loops' : List ℕ} (a : PickRequest) where
  pub as_list : Stepped (walk (rare_step a) spent (list_of d.listing)) d t r out aside ignored loops out' aside' ignored' loops'
      → Stepped (walk_list a) d t r out aside ignored loops out' aside' ignored' loops'
  unfolding walk_list state_of
  as_list x = stepped_as x (λ start h. refl)

  pub as_list_back : Stepped (walk (reverse_rare_step a) spent (reversed (list_of d.listing))) d t r out aside ignored loops out' aside' ignored' loops'
      → Stepped (walk_list_back a) d t r out aside ignored loops out' aside' ignored' loops'
  unfolding walk_list_back state_of
  as_list_back x = stepped_as x (λ start h. refl)

-- What stores in the words of the extents do to the picker: one more, one less. Assumes nothing.
use mathlib.Core.Path.{◌≡◌, refl, sym, ap, ap₂, ◌∙◌}
use mathlib.Core.Logic.{◌≢◌}
use mathlib.Core.List.{List, [], ◌∷◌, ◌++◌}
use Prim.Native.Nat.{ℕ, suc, ◌+◌, ◌-◌, ◌≤◌, ◌<◌}
use native.Mathlib.Omega.{arith}
use native.Mathlib.Decide.{ℕ_discrete}
use native.Mathlib.Numerals.{add-one}
use lib.ListN.{length, get_or, set, length-set}
use Rattle.std.specs.List.{CopiedTo, SameBelow, SameFrom as Kept}
use Rattle.model.specs.Lists.{remove_nth}
use Rattle.model.specs.State.{with_recent_extents, max_extents}
use Rattle.memory_records.specs.declared.record.DownloadingPiece.{DownloadingPiece as Record}
use Rattle.memory_layout.specs.declared.shape.Shape.{Shape}
use Rattle.memory_layout.specs.Tables.{tabulate}
use Rattle.memory_layout.specs.Decode.{head_word, extents_held, decode_at}
use Rattle.memory_layout.specs.Bounds.{WordsSpan, InBounds}
use Rattle.memory_layout.specs.Stores.{WordsBecame}
use Rattle.memory_layout.proofs.TableLaws.{tabulate_ext, tabulate_more, tabulate_without, choose_same}
use Rattle.memory_layout.proofs.OffsetLaws.{head_in}
use Rattle.memory_layout.proofs.Same.{head_other, head_stored}
use Rattle.memory_layout.proofs.Parts.{listing_same}
use Rattle.memory_layout.proofs.BoundsLaws.{words_became}
use Rattle.memory_layout.proofs.stores.HeadStores.{Behind, behind_none, behind_same, behind_store, behind_kept, behind_pieces, behind_partials}
use Rattle.memory_layout.proofs.stores.HeadStores.{behind_list}

-- a word of the head reads as it was stored
pub head_read : (words : List ℕ) (k v : ℕ) → k < length words → head_word (set words k v) k ≡ v
head_read words k v h = head_stored words k v h k ∙ choose_same k v (head_word words k)

-- ---- any change of the extents
module _ (s : Shape) (words words' : List ℕ) (b : Behind s words words') (h : (g : ℕ) → g < 8 → head_word words' g ≡ head_word words g)
    (few : head_word words' 8 ≤ max_extents)
    (f : List ℕ → List ℕ) (e : extents_held words' ≡ f (extents_held words)) where
  at_shape : (records : List Record) (cells : List ℕ) → InBounds s records words cells
      → decode_at s.pieces s.blocks records words' cells
      ≡ with_recent_extents (f (decode_at s.pieces s.blocks records words cells).recent_extents)
      (decode_at s.pieces s.blocks records words cells)
  unfolding with_recent_extents
  at_shape records cells r = λ i. record {
    total_size = h 0 (omega arith) i;
    piece_size = h 1 (omega arith) i;
    seeds = h 2 (omega arith) i;
    cursor = h 3 (omega arith) i;
    reverse_cursor = h 4 (omega arith) i;
    pieces = behind_pieces s words words' b (h 0 (omega arith)) (h 1 (omega arith)) cells i;
    partials = behind_partials s words words' b (h 0 (omega arith)) (h 1 (omega arith)) (h 7 (omega arith)) records cells r i;
    recent_extents = e i;
    listing = listing_same words words' s.pieces (h 5 (omega arith)) (behind_list s words words' b (h 0 (omega arith))
        (h 1 (omega arith)) (h 6 (omega arith)) r.list) i;
  }

  -- the picker has what the words of the extents have
  pub extents_became : WordsBecame s (λ d. with_recent_extents (f d.recent_extents) d) words words'
  extents_became =
      words_became s (λ d. with_recent_extents (f d.recent_extents) d) words words' (behind_kept s words words' b (h 0 (omega arith))
      (h 1 (omega arith))) (h 7 (omega arith))
      (λ l. rw (h 6 (omega arith)) l) (λ l. rw (h 5 (omega arith), h 6 (omega arith)) l) (λ l. few) (λ l. rw (h 5 (omega arith)) l) at_shape

-- ---- one more
module _ (s : Shape) (words : List ℕ) (r : WordsSpan s words) (v : ℕ) (few : head_word words 8 < max_extents) where
  -- the words after it
  abbrev pub extended : List ℕ
  extended = set (set words (9 + head_word words 8) v) 8 (head_word words 8 + 1)

  rest : Behind s words extended
  rest =
      behind_store s words (set words (9 + head_word words 8) v) 8 (head_word words 8 + 1) (omega arith)
      (behind_store s words words (9 + head_word words 8) v (omega arith) (behind_none s words))

  others : (g : ℕ) → 8 ≢ g → 9 + head_word words 8 ≢ g → head_word extended g ≡ head_word words g
  others g m o =
      head_other (set words (9 + head_word words 8) v) 8 (head_word words 8 + 1) g (λ e. m (sym e))
      ∙ head_other words (9 + head_word words 8) v g (λ e. o (sym e))

  number : head_word extended 8 ≡ suc (head_word words 8)
  number =
      head_read (set words (9 + head_word words 8) v) 8 (head_word words 8 + 1) (simp length-set (omega (arith, head_in s words r)))
      ∙ add-one (head_word words 8)

  last : head_word extended (9 + head_word words 8) ≡ v
  last =
      head_other (set words (9 + head_word words 8) v) 8 (head_word words 8 + 1) (9 + head_word words 8) (λ e. omega arith)
      ∙ head_read words (9 + head_word words 8) v (omega (arith, head_in s words r))

  more : extents_held extended ≡ extents_held words ++ (v ∷ [])
  unfolding extents_held
  more =
      ap (λ (k : ℕ). tabulate k (λ j. head_word extended (9 + j))) number
      ∙ tabulate_more (head_word words 8) (λ j. head_word extended (9 + j))
      ∙ ap₂ (λ (l : List ℕ) (w : ℕ). l ++ (w ∷ []))
      (tabulate_ext (head_word words 8) (λ j. head_word extended (9 + j)) (λ j. head_word words (9 + j))
      (λ j l. others (9 + j) (λ e. omega arith) (λ e. omega arith))) last

  -- the new extent and the number, stored
  pub extent_appended : WordsBecame s (λ d. with_recent_extents (d.recent_extents ++ (v ∷ [])) d) words
      (set (set words (9 + head_word words 8) v) 8 (head_word words 8 + 1))
  extent_appended =
      extents_became s words extended rest (λ g l. others g (λ e. omega arith) (λ e. omega arith)) (rw number (omega arith))
      (λ (l : List ℕ). l ++ (v ∷ [])) more

-- ---- one less
-- of n extents, those from p up to j have moved down by one
pub record Closing (words : List ℕ) (p n j : ℕ) (words' : List ℕ) : Type 0 where
  pub behind : (s : Shape) → Behind s words words'
  pub room : 16 ≤ length words'
  pub few : n ≤ max_extents
  pub from : p ≤ j
  pub within : suc j ≤ n
  pub before : (g : ℕ) → g < 9 + p → head_word words' g ≡ head_word words g
  pub moved : (k : ℕ) → p ≤ k → k < j → head_word words' (9 + k) ≡ head_word words (9 + suc k)
  pub after : (k : ℕ) → j ≤ k → head_word words' (9 + k) ≡ head_word words (9 + k)

-- before the first move
pub closing_start : (s : Shape) (words : List ℕ) (p n : ℕ) → WordsSpan s words → n ≤ max_extents → p < n → Closing words p n p words
closing_start s words p n r few h =
    record {
      behind = λ t. behind_none t words;
      room = head_in s words r;
      few = few;
      from = omega arith;
      within = h;
      before = λ g l. refl;
      moved = λ k l m. absurd (omega arith);
      after = λ k l. refl;
    }

module _ (words : List ℕ) (p n j : ℕ) (words' : List ℕ) (c : Closing words p n j words') (more : j + 1 < n) where
  -- the words after one move
  abbrev closed : List ℕ
  closed = set words' (9 + j) (head_word words' (10 + j))

  -- few places move
  low : j < 5
  low = omega (arith, c.few)

  -- the place that was stored reads as the next one did
  here : head_word closed (9 + j) ≡ head_word words (9 + suc j)
  here =
      head_read words' (9 + j) (head_word words' (10 + j)) (omega (arith, c.room, low))
      ∙ ap (head_word words') (omega arith) ∙ c.after (suc j) (omega arith)

  -- one more has moved
  next : Closing words p n (j + 1) closed
  next =
      let f = c.from in
      let q = low in
      record {
        behind = λ t. behind_store t words words' (9 + j) (head_word words' (10 + j)) (omega arith) (c.behind t);
        room = simp length-set c.room;
        few = c.few;
        from = omega arith;
        within = omega arith;
        before = λ g h. head_other words' (9 + j) (head_word words' (10 + j)) g (λ e. omega arith) ∙ c.before g h;
        moved = λ k h l. elim (ℕ_discrete k j) [
          | yes e ↦ rw e here
          | no m ↦ head_other words' (9 + j) (head_word words' (10 + j)) (9 + k) (λ e. m (omega arith)) ∙ c.moved k h (omega arith)
        ];
        after = λ k h. head_other words' (9 + j) (head_word words' (10 + j)) (9 + k) (λ e. omega arith) ∙ c.after k (omega arith);
      }

  -- one move
  pub closing_next : (v : ℕ) (words'' : List ℕ) → v ≡ head_word words' (10 + j) → words'' ≡ set words' (9 + j) v
      → Closing words p n (j + 1) words''
  closing_next v words'' e q = rw (q, e) next

-- after a move of all of them at once
pub closing_moved : (s : Shape) (words : List ℕ) (p n : ℕ) (words' : List ℕ) → WordsSpan s words → n ≤ max_extents → p < n
    → length words' ≡ length words → CopiedTo words words' (10 + p) (9 + p) (9 + n - (10 + p)) → SameBelow words words' (9 + p)
    → Kept words words' (9 + p + (9 + n - (10 + p))) → Closing words p n (n - 1) words'
unfolding head_word
closing_moved s words p n words' r few h long moved below behind =
    record {
      behind = λ t. behind_same t words words' long (λ k l. behind k 0 (omega arith));
      room = omega (arith, long, head_in s words r);
      few = few;
      from = omega arith;
      within = omega arith;
      before = λ g l. below g 0 l;
      moved = λ k l m.
          let e : 10 + p + (9 + k - (9 + p)) ≡ 9 + suc k = omega arith in
          moved (9 + k) 0 (omega arith) (omega arith) ∙ ap (λ (g : ℕ). get_or words g 0) e;
      after = λ k l. behind (9 + k) 0 (omega arith);
    }

module _ (s : Shape) (words : List ℕ) (r : WordsSpan s words) (p n j : ℕ) (words' : List ℕ) (c : Closing words p n j words')
    (number : n ≡ head_word words 8) (end : n ≤ j + 1) where
  abbrev shorter : List ℕ
  shorter = set words' 8 j

  word8 : head_word shorter 8 ≡ j
  word8 = head_read words' 8 j (omega (arith, c.room))

  upper : (k : ℕ) → head_word shorter (9 + k) ≡ head_word words' (9 + k)
  upper k = head_other words' 8 j (9 + k) (λ e. omega arith)

  less : extents_held shorter ≡ remove_nth p (extents_held words)
  unfolding extents_held
  less =
      ap (λ (k : ℕ). tabulate k (λ i. head_word shorter (9 + i))) word8
      ∙ tabulate_without j (λ i. head_word words (9 + i)) (λ i. head_word shorter (9 + i)) p c.from
      (λ i h. upper i ∙ c.before (9 + i) (omega arith)) (λ i h l. upper i ∙ c.moved i h l)
      ∙ ap (λ (k : ℕ). remove_nth p (tabulate k (λ i. head_word words (9 + i)))) (omega (arith, c.within))

  gone : WordsBecame s (λ d. with_recent_extents (remove_nth p d.recent_extents) d) words shorter
  gone =
      extents_became s words shorter (behind_store s words words' 8 j (omega arith) (c.behind s))
      (λ g h. head_other words' 8 j g (λ e. omega arith) ∙ c.before g (omega arith))
      (rw word8 (omega (arith, c.few, c.within))) (remove_nth p) less

  -- after the last move the number is stored
  pub extent_removed : (w : ℕ) (words'' : List ℕ) → w ≡ n - 1 → words'' ≡ set words' 8 w
      → WordsBecame s (λ d. with_recent_extents (remove_nth p d.recent_extents) d) words words''
  extent_removed w words'' q o =
      let k : w ≡ j = omega (arith, c.within) in
      rw (o, k) gone

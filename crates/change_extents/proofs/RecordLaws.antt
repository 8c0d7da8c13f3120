-- The extents recorded: the search for one, and one more of them. Assumes nothing.
use mathlib.Core.Path.{◌≡◌, refl, sym, ap, ap₂, ◌∙◌}
use mathlib.Core.Logic.{◌≢◌}
use mathlib.Core.Bool.{Bool, true, false, ◌||◌}
use mathlib.Core.List.{List, [], ◌∷◌, ◌++◌}
use Prim.Native.Nat.{ℕ, zero, suc, ◌+◌, ◌≤◌, ◌<◌}
use native.Mathlib.Nat.{not-suc-le-zero, le_of_suc-le-suc}
use native.Mathlib.Omega.{arith}
use lib.ListN.{length, get_or, drop}
use lib.Dec.{eqb}
use borrow.Author.Tests.{eq-eqb, ne_eqb, lt-ltb, le-ltb}
use Rattle.model.specs.Lists.{nth, len, any, member, when}
use Rattle.model.specs.State.{Picker, max_extents, extent_blocks, with_recent_extents, blocks_per_piece, extent_for}
use Rattle.model.specs.change.Changes.{worth_recording, recordable, record_downloading_piece}
use Rattle.geometry.specs.Numbers.{extent_of}
use Rattle.memory_records.specs.declared.record.DownloadingPiece.{DownloadingPiece as Record}
use Rattle.memory_layout.specs.declared.shape.Shape.{Shape}
use Rattle.memory_layout.specs.Decode.{blocks_on, extents_held, decode}
use Rattle.memory_layout.specs.Bounds.{InBounds}
use Rattle.memory_fields.specs.Reading.{CellsSay, HeadSays}
use Rattle.memory_fields.specs.Storing.{WordsStored, StoredBeside}
use Rattle.memory_fields.proofs.Beside.{stored_beside, none_beside}

-- ---- a number sought in a list
seek_next : (e : ℕ) (l : List ℕ) (k : ℕ) → k < length l → member e (drop k l) ≡ (eqb e (get_or l k 0) || member e (drop (suc k) l))
unfolding member any
seek_next e [] k h = absurd (not-suc-le-zero h)
seek_next e (x ∷ xs) zero h = refl
seek_next e (x ∷ xs) (suc k) h = seek_next e xs k (le_of_suc-le-suc h)

seek_end : (e : ℕ) (l : List ℕ) (k : ℕ) → length l ≤ k → member e (drop k l) ≡ false
unfolding member any
seek_end e [] zero h = refl
seek_end e [] (suc k) h = refl
seek_end e (x ∷ xs) zero h = absurd (not-suc-le-zero h)
seek_end e (x ∷ xs) (suc k) h = seek_end e xs k (le_of_suc-le-suc h)

-- ---- extent e sought among the recent ones: those from k on decide
pub record Sought (words : List ℕ) (e k : ℕ) : Type 0 where
  pub left : member e (drop k (extents_held words)) ≡ member e (extents_held words)

module _ (words : List ℕ) (e : ℕ) where
  pub seek_begins : Sought words e 0
  seek_begins = record { left = refl }

  module _ (many k : ℕ) (number : HeadSays words (λ d. len d.recent_extents) many) (o : Sought words e k) where
    pub seek_ends : many ≤ k → HeadSays words (λ d. member e d.recent_extents) false
    unfolding len
    seek_ends h = record {
      is = λ records cells. sym (seek_end e (extents_held words) k (omega (arith, number.is records cells))) ∙ o.left;
    }

    module _ (h : k < many) (x : ℕ) (r : HeadSays words (λ d. nth 0 d.recent_extents k) x) where
      here : member e (extents_held words) ≡ (eqb e x || member e (drop (k + 1) (extents_held words)))
      unfolding len nth
      here =
          let next : k + 1 ≡ suc k = omega arith in
          rw (next, r.is [] []) (sym o.left ∙ seek_next e (extents_held words) k (omega (arith, number.is [] [])))

      pub seek_found : e ≡ x → HeadSays words (λ d. member e d.recent_extents) true
      seek_found q = record { is = λ records cells. sym (here ∙ rw (eq-eqb e x q)) }

      pub seek_passes : e ≢ x → Sought words e (k + 1)
      seek_passes q = record { left = sym (here ∙ rw (ne_eqb e x q)) }

-- ---- recording, in the order of the tests
module _ (d : Picker) (i : ℕ) where
  -- a piece has too many blocks
  pub record_wide : extent_blocks ≤ blocks_per_piece d → d ≡ record_downloading_piece i d
  unfolding record_downloading_piece recordable when
  record_wide h = rw (le-ltb (blocks_per_piece d) extent_blocks h)

  module _ (small : blocks_per_piece d < extent_blocks) where
    -- it is recorded
    pub record_known : member (extent_for d i) d.recent_extents ≡ true → d ≡ record_downloading_piece i d
    unfolding record_downloading_piece recordable when
    record_known e = rw (lt-ltb (blocks_per_piece d) extent_blocks small, e)

    module _ (new : member (extent_for d i) d.recent_extents ≡ false) where
      -- there are five
      pub record_full : max_extents ≤ len d.recent_extents → d ≡ record_downloading_piece i d
      unfolding record_downloading_piece recordable when
      record_full h = rw (lt-ltb (blocks_per_piece d) extent_blocks small, new, le-ltb (len d.recent_extents) max_extents h)

      module _ (few : len d.recent_extents < max_extents) where
        -- it is not worth it
        pub record_unworthy : worth_recording d i ≡ false → d ≡ record_downloading_piece i d
        unfolding record_downloading_piece recordable when
        record_unworthy e =
            rw (lt-ltb (blocks_per_piece d) extent_blocks small, new, lt-ltb (len d.recent_extents) max_extents few, e)

        -- it is
        pub record_new : worth_recording d i ≡ true
            → with_recent_extents (d.recent_extents ++ (extent_for d i ∷ [])) d ≡ record_downloading_piece i d
        unfolding record_downloading_piece recordable when
        record_new e = rw (lt-ltb (blocks_per_piece d) extent_blocks small, new, lt-ltb (len d.recent_extents) max_extents few, e)

-- ---- the same in the words, by what was read
module _ (s : Shape) (words cells : List ℕ) (i b : ℕ) (blocks : b ≡ s.blocks) where
  blocks_are : (records : List Record) → InBounds s records words cells → blocks_per_piece (decode records words cells) ≡ b
  unfolding blocks_per_piece blocks_on
  blocks_are records q = sym (blocks ∙ q.blocks)

  pub recorded_wide : extent_blocks ≤ b → StoredBeside s (record_downloading_piece i) cells words words
  recorded_wide h =
      none_beside s cells (record_downloading_piece i) words
      (λ records q. record_wide (decode records words cells) i (omega (arith, blocks_are records q)))

  module _ (small : b < extent_blocks) (e place : ℕ) (here : place ≡ i) (extent : e ≡ extent_of b place) (known : Bool)
      (sought : HeadSays words (λ d. member e d.recent_extents) known) where
    extent_is : (records : List Record) → InBounds s records words cells → e ≡ extent_for (decode records words cells) i
    unfolding extent_for extent_of
    extent_is records q = extent ∙ ap₂ extent_of (sym (blocks_are records q)) here

    small_is : (records : List Record) → InBounds s records words cells → blocks_per_piece (decode records words cells) < extent_blocks
    small_is records q = omega (arith, blocks_are records q)

    known_is : (records : List Record) → InBounds s records words cells
        → member (extent_for (decode records words cells) i) (decode records words cells).recent_extents ≡ known
    known_is records q = rw (← extent_is records q) (sym (sought.is records cells))

    pub recorded_known : known ≡ true → StoredBeside s (record_downloading_piece i) cells words words
    recorded_known t =
        none_beside s cells (record_downloading_piece i) words
        (λ records q. record_known (decode records words cells) i (small_is records q) (known_is records q ∙ t))

    module _ (new : known ≡ false) (many : ℕ) (number : HeadSays words (λ d. len d.recent_extents) many) (m : ℕ)
        (same : m ≡ many) where
      pub recorded_full : max_extents ≤ m → StoredBeside s (record_downloading_piece i) cells words words
      recorded_full h =
          none_beside s cells (record_downloading_piece i) words
          (λ records q.
          record_full (decode records words cells) i (small_is records q) (known_is records q ∙ new)
          (omega (arith, number.is records cells)))

      module _ (few : m < max_extents) (worth : Bool) (w : CellsSay s cells (λ d. worth_recording d i) worth) where
        pub recorded_unworthy : worth ≡ false → StoredBeside s (record_downloading_piece i) cells words words
        recorded_unworthy t =
            none_beside s cells (record_downloading_piece i) words
            (λ records q.
            record_unworthy (decode records words cells) i (small_is records q) (known_is records q ∙ new)
            (omega (arith, number.is records cells)) (sym (w.is records words q) ∙ t))

        pub recorded_new : worth ≡ true → (words' : List ℕ)
            → WordsStored s (λ d. with_recent_extents (d.recent_extents ++ (e ∷ [])) d) words words'
            → StoredBeside s (record_downloading_piece i) cells words words'
        recorded_new t words' x =
            stored_beside s cells (λ d. with_recent_extents (d.recent_extents ++ (e ∷ [])) d) (record_downloading_piece i) words words'
            (λ records q.
            let d = decode records words cells in
            ap (λ (v : ℕ). with_recent_extents (d.recent_extents ++ (v ∷ [])) d) (extent_is records q)
            ∙ record_new d i (small_is records q) (known_is records q ∙ new) (omega (arith, number.is records cells))
            (sym (w.is records words q) ∙ t)) x

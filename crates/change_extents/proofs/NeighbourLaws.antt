-- The pass over an extent, one piece at a time, and which range it goes over. Assumes nothing.
use mathlib.Core.Path.{◌≡◌, refl, sym, ap, ◌∙◌}
use mathlib.Core.Bool.{Bool, true, false, not, ◌&&◌, ◌||◌, true≢false, or-false}
use mathlib.Core.List.{List, [], ◌∷◌}
use Prim.Native.Nat.{ℕ, suc, ◌+◌, ◌-◌, ◌/◌, ◌≤◌, ◌<◌}
use native.Mathlib.Nat.{div-mul-le_self, le-div_iff_mul-le}
use native.Mathlib.Omega.{arith}
use lib.Dec.{eqb}
use Rattle.model.specs.Lists.{every, filter, each, from, range}
use Rattle.model.specs.State.{Picker, valid_geometry, extent_blocks, piece_at, pieces_in, blocks_per_piece, extent_size, num_extents}
use Rattle.model.specs.State.{extent_for, extent_start, extent_end}
use Rattle.model.specs.change.Changes.{neighbours, worth_recording}
use Rattle.model.proofs.base.Bep3Laws.{lt_parts_of}
use Rattle.geometry.specs.Numbers.{extent_of, extent_begin, extent_end as end_of}
use Rattle.geometry.proofs.PartLaws.{least_le}
use Rattle.geometry.proofs.ValidLaws.{bounds}
use Rattle.geometry_needs.proofs.ExtentLaws.{extents_parts}
use Rattle.memory_records.specs.declared.record.DownloadingPiece.{DownloadingPiece as Record}
use Rattle.memory_layout.specs.declared.shape.Shape.{Shape}
use Rattle.memory_layout.specs.Decode.{head_word, blocks_on, decode}
use Rattle.memory_layout.specs.Bounds.{InBounds}
use Rattle.memory_layout.proofs.Meanings.{pieces_number}
use Rattle.memory_fields.specs.Reading.{CellsSay}
use Rattle.change_extents.specs.Neighbours.{other_priority, unflushed_other, others, worth_among}

-- ---- ranges
-- with a number in front
range_next : (k end : ℕ) → k < end → range k end ≡ k ∷ range (k + 1) end
unfolding range from
range_next k end h =
    let e : end - k ≡ suc (end - (k + 1)) = omega arith in
    let o : k + 1 ≡ suc k = omega arith in
    rw (e, o)

-- empty
range_end : (k end : ℕ) → end ≤ k → range k end ≡ []
unfolding range from
range_end k end h =
    let e : end - k ≡ 0 = omega arith in
    rw e

-- ---- what is left of the pass, where a piece that is not flushed was met or not
unfoldable pub worth_left : (d : Picker) (i : ℕ) (met : Bool) (k end : ℕ) → Bool
worth_left d i met k end =
    every (λ p. eqb p.priority (piece_at d i).priority) (others d i k end)
    && (met || not (every (λ p. p.flushed) (others d i k end)))

met_or : (met f g : Bool) → (met || not (f && g)) ≡ ((met || not f) || not g)
met_or true f g = refl
met_or false true g = refl
met_or false false g = refl

module _ (d : Picker) (i k end : ℕ) where
  -- it begins
  pub left_begins : worth_left d i false k end ≡ worth_among d i k end
  unfolding worth_left worth_among
  left_begins = refl

  -- it ends
  pub left_ends : end ≤ k → (met : Bool) → worth_left d i met k end ≡ met
  unfolding worth_left others filter each every
  left_ends h met = rw (range_end k end h) (or-false met)

  module _ (h : k < end) where
    others_self : eqb k i ≡ true → others d i k end ≡ others d i (k + 1) end
    unfolding others filter each
    others_self e = rw (range_next k end h, e)

    others_one : eqb k i ≡ false → others d i k end ≡ piece_at d k ∷ others d i (k + 1) end
    unfolding others filter each
    others_one e = rw (range_next k end h, e)

    -- another priority
    pub left_stops : (met : Bool) → other_priority d i k ≡ true → worth_left d i met k end ≡ false
    unfolding worth_left other_priority every
    left_stops met e = go (eqb k i) (eqb (piece_at d k).priority (piece_at d i).priority) refl refl e
      where
        go : (self same : Bool) → eqb k i ≡ self → eqb (piece_at d k).priority (piece_at d i).priority ≡ same
            → (not self && not same) ≡ true → worth_left d i met k end ≡ false
        go true same q o t = absurd (true≢false (sym t))
        go false true q o t = absurd (true≢false (sym t))
        go false false q o t = rw (others_one q, o)

    -- the same, or the piece itself
    pub left_passes : (met : Bool) → other_priority d i k ≡ false
        → worth_left d i met k end ≡ worth_left d i (met || unflushed_other d i k) (k + 1) end
    unfolding worth_left other_priority unflushed_other every
    left_passes met e = go (eqb k i) (eqb (piece_at d k).priority (piece_at d i).priority) refl refl e
      where
        go : (self same : Bool) → eqb k i ≡ self → eqb (piece_at d k).priority (piece_at d i).priority ≡ same
            → (not self && not same) ≡ false
            → worth_left d i met k end ≡ worth_left d i (met || unflushed_other d i k) (k + 1) end
        go true same q o t = rw (others_self q, q, or-false met)
        go false true q o t = rw (others_one q, q, o, met_or met (piece_at d k).flushed (every (λ p. p.flushed) (others d i (k + 1) end)))
        go false false q o t = absurd (true≢false t)

-- ---- the loop
-- what is left of it gives what the whole would
pub record Weighed (s : Shape) (cells : List ℕ) (i begin end : ℕ) (met : Bool) (k : ℕ) : Type 0 where
  pub left : (records : List Record) (words : List ℕ) → InBounds s records words cells
      → worth_left (decode records words cells) i met k end ≡ worth_among (decode records words cells) i begin end

module _ (s : Shape) (cells : List ℕ) (i begin end : ℕ) where
  pub weigh_begins : Weighed s cells i begin end false begin
  weigh_begins = record { left = λ records words q. left_begins (decode records words cells) i begin end }

  module _ (met : Bool) (k : ℕ) (o : Weighed s cells i begin end met k) where
    pub weigh_ends : end ≤ k → CellsSay s cells (λ d. worth_among d i begin end) met
    weigh_ends h = record {
      is = λ records words q. sym (left_ends (decode records words cells) i k end h met) ∙ o.left records words q;
    }

    module _ (h : k < end) (t : Bool) (r : CellsSay s cells (λ d. other_priority d i k) t) where
      pub weigh_stops : t ≡ true → CellsSay s cells (λ d. worth_among d i begin end) false
      weigh_stops e = record {
        is = λ records words q.
            sym (left_stops (decode records words cells) i k end h met (sym (r.is records words q) ∙ e)) ∙ o.left records words q;
      }

      pub weigh_passes : t ≡ false → (met' : Bool) → CellsSay s cells (λ d. met || unflushed_other d i k) met'
          → Weighed s cells i begin end met' (k + 1)
      weigh_passes e met' m = record {
        left = λ records words q.
            let d = decode records words cells in
            ap (λ (b : Bool). worth_left d i b (k + 1) end) (m.is records words q)
            ∙ sym (left_passes d i k end h met (sym (r.is records words q) ∙ e)) ∙ o.left records words q;
      }

-- ---- the range
-- piece i lies in an extent
extent_there : (n b i : ℕ) → i < n → 1 ≤ b → b < extent_blocks → extent_of b i < num_extents n b
unfolding extent_of extent_size
extent_there n b i h some small =
    let whole : 1 ≤ extent_blocks / b = (le-div_iff_mul-le some).1 (omega arith) in
    rw (← extents_parts n b (λ e. omega arith))
    ((lt_parts_of n (extent_blocks / b) (i / (extent_blocks / b)) whole).1 (omega (arith, div-mul-le_self i (extent_blocks / b))))

-- which ends with the pieces at the latest
pub end_within : (n b e : ℕ) → end_of n b e ≤ n
unfolding end_of
end_within n b e = (least_le (extent_begin b e + extent_size b) n).1

-- its range is that of the definition
worth_is : (d : Picker) (n b e i begin end : ℕ) → n ≡ pieces_in d → b ≡ blocks_per_piece d → e ≡ extent_of b i → begin ≡ extent_begin b e
    → end ≡ end_of n b e → worth_among d i begin end ≡ worth_recording d i
unfolding worth_among worth_recording others neighbours extent_for extent_start extent_end extent_of extent_begin end_of
worth_is d n b e i begin end en eb ee f l = rw (l, f, ee, eb, en)

-- ---- the extent of piece i, by the numbers that were computed
module _ (s : Shape) (i n b place e : ℕ) (pieces : n ≡ s.pieces) (blocks : b ≡ s.blocks) (here : place ≡ i) where
  -- there is one
  pub extent_found : e ≡ extent_of b place → i < s.pieces → 1 ≤ s.blocks → s.blocks < extent_blocks → e < num_extents n b
  extent_found extent h some small = rw (extent, here) (extent_there n b i (omega arith) (omega arith) (omega arith))

  -- the pass over its range gives the definition's answer
  pub worth_found : e ≡ extent_of b place → (cells : List ℕ) (begin end : ℕ) → begin ≡ extent_begin b e → end ≡ end_of n b e → (r : Bool)
      → CellsSay s cells (λ d. worth_among d i begin end) r → CellsSay s cells (λ d. worth_recording d i) r
  unfolding blocks_per_piece blocks_on
  worth_found extent cells begin end f l r x = record {
    is = λ records words q.
        x.is records words q
        ∙ worth_is (decode records words cells) n b e i begin end (pieces ∙ sym (pieces_number s records words cells q))
        (blocks ∙ q.blocks) (extent ∙ ap (extent_of b) here) f l;
  }

-- a piece of a valid geometry has a block: what callers are asked for
pub blocks_some : (s : Shape) (words : List ℕ) → valid_geometry (head_word words 0) (head_word words 1) ≡ true → s.blocks ≡ blocks_on words
    → 1 ≤ s.blocks
unfolding blocks_on
blocks_some s words valid e = omega (arith, (bounds (head_word words 0) (head_word words 1) valid).some_blocks)

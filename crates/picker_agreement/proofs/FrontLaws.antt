-- Of well-formed memory only what the needs cover is read: buffers of other lengths with the same contents there hold the same picker.
-- Assumes nothing.
use mathlib.Core.Path.{◌≡◌, refl, sym, ap, subst, ◌∙◌}
use mathlib.Core.Bool.{true, false}
use mathlib.Core.List.{List}
use mathlib.Core.Option.{none}
use Prim.Native.Nat.{ℕ, ◌≤◌, ◌<◌}
use native.Mathlib.Omega.{arith}
use lib.ListN.{length, get_or}
use Rattle.model.specs.State.{Picker, valid_geometry, blocks_per_piece}
use Rattle.model.specs.list.Order.{rank}
use Rattle.model.specs.image.WellFormed.{well_formed}
use Rattle.model.specs.Memory.{Memory, memory_for, memory_needed, is_short}
use Rattle.model.proofs.base.MemoryLaws.{Enough}
use Rattle.geometry.proofs.ValidLaws.{bounds}
use Rattle.memory_records.specs.declared.record.DownloadingPiece.{DownloadingPiece as Record}
use Rattle.memory_records.specs.Records.{no_record}
use Rattle.memory_records.specs.Rows.{live_records, rows_of, records_in}
use Rattle.memory_layout.specs.declared.shape.Shape.{Shape}
use Rattle.memory_layout.specs.Offsets.{places_for}
use Rattle.memory_layout.specs.Decode.{head_word, record_at, pieces_on, blocks_on, decode}
use Rattle.memory_layout.specs.Bounds.{ShapeOf, RanksHeld}
use Rattle.memory_layout.specs.Standing.{Stands}
use Rattle.memory_layout.specs.Good.{lengths, short, memory_refusal}
use Rattle.memory_layout.proofs.ReadLaws.{SameRead, read_below, read_bounds, read_decode, read_plain, ranks_same}
use Rattle.memory_layout.proofs.EditedRecords.{decode_live, stands_live}
use Rattle.check_pieces.proofs.ExtentTests.{pieces_in_lem}
use Rattle.check_memory.proofs.Standing.{Passes, parts_pass}
use Rattle.check_memory.proofs.Passing.{passed_stands, stands_passes}
use Rattle.picker_calls.specs.Calling.{Lent, picker_on, memory_on}
use Rattle.picker_calls.specs.Starting.{lengths_on}
use Rattle.picker_calls.proofs.LiveLaws.{memory_live, live_same}

-- the shape that the head gives
unfoldable shape_on : (words : List ℕ) → Shape
shape_on words = record { pieces = pieces_on words; blocks = blocks_on words; places = places_for (pieces_on words) }

shape_on_lem : (words : List ℕ) → valid_geometry (head_word words 0) (head_word words 1) ≡ true → ShapeOf (shape_on words) words
unfolding shape_on pieces_on blocks_on
shape_on_lem words v =
    let b = bounds (head_word words 0) (head_word words 1) v in
    record { sizes = record { places = refl; many = b.pieces_most; wide = b.blocks_most }; pieces = refl; blocks = refl }

-- the needs of the picker that buffers mean are those of their head
pub needs_on : (m : Lent) → memory_needed (picker_on m) ≡ memory_for (pieces_on m.words) (blocks_on m.words)
unfolding memory_needed picker_on blocks_per_piece blocks_on
needs_on m = ap (λ (n : ℕ). memory_for n (blocks_on m.words)) (pieces_in_lem m.partials m.words m.cells)

-- two memories hold the same as far as these needs go
pub record SameBelow (need : Memory) (m n : Lent) : Type 0 where
  pub words : (k : ℕ) → k < need.words → get_or n.words k 0 ≡ get_or m.words k 0
  pub cells : (k : ℕ) → k < need.cells → get_or n.cells k 0 ≡ get_or m.cells k 0
  pub partials : (k : ℕ) → k < need.partials → get_or n.partials k no_record ≡ get_or m.partials k no_record

module _ (m : Lent) (good : memory_on m ≡ none) where
  -- the live records
  abbrev live : List Record
  live = records_in (live_records m.words) (rows_of m.words m.partials)

  rows_good : memory_refusal (length m.partials) live m.words m.cells ≡ none
  unfolding memory_on
  rows_good = memory_live m.words m.cells m.partials ∙ good

  passes : Passes (length m.partials) live m.words m.cells
  passes = parts_pass (length m.partials) live m.words m.cells rows_good

  -- a head that is there, of a geometry that can be
  pub head_there : 16 ≤ length m.words
  head_there = passes.there

  pub geometry_good : valid_geometry (head_word m.words 0) (head_word m.words 1) ≡ true
  geometry_good = passes.geometry

  abbrev s : Shape
  s = shape_on m.words

  stands : Stands s live m.words m.cells
  stands =
      passed_stands s (length m.partials) (rows_of m.words m.partials) m.words m.cells (shape_on_lem m.words geometry_good)
      rows_good

  same_live : (k : ℕ) → k < head_word m.words 7 → record_at m.partials k ≡ record_at live k
  same_live = live_same m.words m.cells m.partials passes.there passes.long passes.head

  -- the memory is long enough for its picker
  pub enough_on : is_short (lengths_on m) (memory_needed (picker_on m)) ≡ false
  unfolding lengths_on short
  enough_on = subst (λ (x : Memory). is_short (lengths (length m.partials) m.words m.cells) x ≡ false) (sym (needs_on m))
      passes.long

  -- ---- buffers of other lengths
  module _ (n : Lent) (long : Enough (lengths_on n) (memory_for (pieces_on m.words) (blocks_on m.words)))
      (same : SameBelow (memory_for (pieces_on m.words) (blocks_on m.words)) m n) where
    few : head_word m.words 7 ≤ places_for (pieces_on m.words)
    unfolding shape_on
    few = stands.bounds.partials

    read : SameRead s live live m.words n.words m.cells n.cells
    unfolding shape_on memory_for lengths_on lengths
    read = read_below s live m.words n.words m.cells n.cells stands.bounds long.words long.cells same.words
        same.cells

    one : decode live n.words n.cells ≡ decode live m.words m.cells
    one = read_decode s live live m.words n.words m.cells n.cells stands.bounds read

    seven : head_word n.words 7 ≡ head_word m.words 7
    seven = read.head 7 (omega arith)

    front_stands : Stands s live n.words n.cells
    front_stands = record {
      bounds = read_bounds s live live m.words n.words m.cells n.cells stands.bounds read;
      plain = read_plain s live live m.words n.words m.cells n.cells stands.bounds read stands.plain;
      ranks = ranks_same s.pieces m.words n.words (rank (decode live n.words n.cells)) (read.head 6 (omega arith))
          read.list
          (subst (λ (d : Picker). RanksHeld s.pieces m.words (rank d)) (sym one) stands.ranks);
      sound = ap well_formed one ∙ stands.sound;
    }

    same_front : (k : ℕ) → k < head_word n.words 7 → record_at n.partials k ≡ record_at live k
    unfolding memory_for record_at
    same_front k h =
        let l : k < head_word m.words 7 = omega (arith, seven) in
        same.partials k (omega (arith, few)) ∙ same_live k l

    places : places_for (pieces_on m.words) ≤ length n.partials
    unfolding memory_for lengths_on lengths
    places = long.partials

    all_stands : Stands s n.partials n.words n.cells
    all_stands = stands_live s live n.partials n.words n.cells same_front (omega (arith, seven, few, places)) front_stands

    -- they pass the test
    pub front_good : memory_on n ≡ none
    unfolding memory_on shape_on
    front_good = stands_passes s n.partials n.words n.cells all_stands (length n.partials) places

    -- and hold the same picker
    pub front_picker : picker_on n ≡ picker_on m
    unfolding picker_on
    front_picker =
        decode_live s live n.partials n.words n.cells same_front
        ∙ one
        ∙ sym (decode_live s live m.partials m.words m.cells same_live)

-- A live row as the partial that is written for it: what its writing asks, and that there is room. Assumes nothing.
use mathlib.Core.Path.{◌≡◌, sym, ap, subst, ◌∙◌}
use mathlib.Core.List.{List}
use Prim.Native.Nat.{ℕ, ◌+◌, ◌*◌, ◌≤◌, ◌<◌}
use native.Mathlib.Omega.{arith}
use lib.ListN.{length}
use Rattle.model.specs.Lists.{concat_map}
use Rattle.model.specs.Bep3.{num_pieces, piece_blocks}
use Rattle.model.specs.State.{DownloadingPiece}
use Rattle.model.specs.image.Image.{partial_records}
use Rattle.memory_records.specs.declared.record.DownloadingPiece.{DownloadingPiece as Record}
use Rattle.memory_records.specs.Rows.{row_at, records_in}
use Rattle.memory_records.proofs.laws.RowLaws.{records_at}
use Rattle.memory_layout.specs.declared.shape.Shape.{Shape}
use Rattle.memory_layout.specs.Decode.{head_word, record_at, pieces_on, blocks_of, partial_held, partials_held}
use Rattle.memory_layout.specs.Bounds.{ShapeOf, PlainRecord, PlainBlock}
use Rattle.memory_layout.proofs.BoundsLaws.{blocks_within}
use Rattle.memory_halving.proofs.RowLaws.{row_index}
use Rattle.ask_picker.specs.Asked.{Asked}
use Rattle.ask_picker.proofs.AskedLaws.{asked_queues}
use Rattle.image_parts.specs.Parts.{Appended, PlainBlocks}
use Rattle.image_parts.proofs.RunLaws.{run_of, run_next, run_room, appended_as}
use Rattle.image_parts.proofs.RecordMeanings.{partial_long}

-- ---- numbers of the head
-- a piece that is there, by numbers that are read
pub piece_there : (s : Shape) (words : List ℕ) (i j a b : ℕ) → ShapeOf s words → i ≡ j → a ≡ head_word words 0 → b ≡ head_word words 1
    → j < s.pieces → i < num_pieces a b
unfolding pieces_on
piece_there s words i j a b g e ea eb h = rw (ea, eb) (omega (arith, g.pieces))

-- and its blocks
pub blocks_there : (words : List ℕ) (i j a b r : ℕ) → i ≡ j → a ≡ head_word words 0 → b ≡ head_word words 1 → r ≡ piece_blocks a b i
    → r ≡ blocks_of words j
unfolding blocks_of
blocks_there words i j a b r e ea eb h = rw (← e, ← ea, ← eb) h

-- blocks at a place of another name
pub plain_blocks : (s : Shape) (words cells : List ℕ) (r : Record) (p many : ℕ) → PlainRecord s.pieces s.blocks words cells r
    → p ≡ r.info_idx → many ≡ blocks_of words r.index → PlainBlocks s cells p many
plain_blocks s words cells r p many g e m j h =
    subst (λ (q : ℕ). PlainBlock s.pieces s.blocks cells q j) (sym e) (g.blocks j (omega arith))

-- ---- a live row
-- what its writing asks
pub record Ready (s : Shape) (words cells : List ℕ) (r : Record) : Type 0 where
  pub plain : PlainRecord s.pieces s.blocks words cells r
  pub there : r.index < s.pieces
  pub placed : r.info_idx < s.places
  pub blocks : blocks_of words r.index ≤ s.blocks

module _ (s : Shape) (live : ℕ) (rows words cells : List ℕ) (g : Asked s live rows words cells) where
  -- record k as the partial that it is
  abbrev pub held : ℕ → DownloadingPiece
  held k = partial_held words cells s.pieces s.blocks (record_at (records_in live rows) k)

  module _ (k : ℕ) (h : k < live) where
    row_record : row_at rows k ≡ record_at (records_in live rows) k
    unfolding record_at
    row_record = sym (records_at live rows k h)

    pub row_ready : (r : Record) → r ≡ row_at rows k → Ready s words cells r
    unfolding record_at
    row_ready r e =
        let b = g.stands.bounds in
        let m : k < head_word words 7 = omega (arith, g.many) in
        subst (Ready s words cells) (sym (e ∙ row_record)) (record {
          plain = g.stands.plain.partials k m;
          there = omega (arith, row_index live rows k h, (asked_queues s live rows words cells g).there k h);
          placed = b.placed k m;
          blocks = blocks_within s (records_in live rows) words cells b _;
        })

    -- there is room for it
    pub row_fits : (r : Record) (at here : ℕ) (a b : List ℕ) → r ≡ row_at rows k → Appended at (run_of partial_records held k) a b here
        → at + length (concat_map partial_records (partials_held (records_in live rows) words cells s.pieces s.blocks)) ≤ length a
        → here + (6 + 13 * blocks_of words r.index) ≤ length b
    unfolding partials_held
    row_fits r at here a b e p q =
        let m : k < head_word words 7 = omega (arith, g.many) in
        let f : blocks_of words r.index ≡ blocks_of words (record_at (records_in live rows) k).index =
        ap (λ (x : Record). blocks_of words x.index) (e ∙ row_record) in
        omega (
          arith,
          p.place,
          p.put.long,
          run_room partial_records held k (head_word words 7) m,
          partial_long words cells s.pieces s.blocks (record_at (records_in live rows) k),
        )

    -- one more
    pub row_next : (r : Record) (at here next : ℕ) (a b c : List ℕ) → r ≡ row_at rows k → Appended at (run_of partial_records held k) a b here
        → Appended here (partial_records (partial_held words cells s.pieces s.blocks r)) b c next
        → Appended at (run_of partial_records held (k + 1)) a c next
    row_next r at here next a b c e p q =
        run_next partial_records held at k here next a b c p
        (appended_as here next _ _ b c q (ap (λ (x : Record). partial_records (partial_held words cells s.pieces s.blocks x)) (e ∙ row_record)))

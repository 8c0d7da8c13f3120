-- The bounds: what they give, that they stand after a change, and changes one after another. Assumes nothing.
use mathlib.Core.Path.{◌≡◌, refl, sym, ap, ap₂, ◌∙◌}
use mathlib.Core.Bool.{true}
use mathlib.Core.List.{List}
use Prim.Native.Nat.{ℕ, ◌≤◌, ◌<◌}
use native.Mathlib.Omega.{arith}
use lib.ListN.{length}
use Rattle.model.specs.Bep3.{num_pieces, whole_piece_blocks}
use Rattle.model.specs.State.{Picker, valid_geometry, max_extents}
use Rattle.model.proofs.base.Bep3Laws.{blocks_in_piece_le}
use Rattle.geometry.proofs.ValidLaws.{bounds}
use Rattle.memory_records.specs.declared.record.DownloadingPiece.{DownloadingPiece as Record}
use Rattle.memory_layout.specs.declared.shape.Shape.{Shape}
use Rattle.memory_layout.specs.Offsets.{places_for}
use Rattle.memory_layout.specs.Decode.{head_word, record_at, pieces_on, blocks_on, blocks_of, yes?, partials_held, decode, decode_at}
use Rattle.memory_layout.specs.Bounds.{InBounds, PlainPieces, PlainBlock, Plain}
use Rattle.memory_layout.specs.Stores.{WordsKept, CellsKept, Became, WordsBecame, CellsBecame, BothBecame}
use Rattle.memory_layout.specs.Frames.{SamePeers, SameBlocks}
use Rattle.memory_layout.proofs.Parts.{blocks_of_same, block_same, partials_same}

-- ---- what they give
module _ (s : Shape) (records : List Record) (words cells : List ℕ) (r : InBounds s records words cells) where
  -- the picker for the shape
  pub decode_at_lem : decode records words cells ≡ decode_at s.pieces s.blocks records words cells
  decode_at_lem = ap₂ (λ (n b : ℕ). decode_at n b records words cells) (sym r.pieces) (sym r.blocks)

  -- no piece has more blocks than a whole one
  pub blocks_within : (i : ℕ) → blocks_of words i ≤ s.blocks
  unfolding blocks_on blocks_of
  blocks_within i =
      rw r.blocks
      (blocks_in_piece_le (head_word words 0) (head_word words 1) i (bounds (head_word words 0) (head_word words 1) r.geometry).some_size)

  -- a live record has a place that is there
  pub place_room : (k : ℕ) → k < head_word words 7 → (record_at records k).info_idx < places_for s.pieces
  place_room k h = omega (arith, r.placed k h, r.spans.in_words.sizes.places)

  -- the partials stay where the peers and the cells of blocks do
  pub partials_stay : (words' cells' : List ℕ) → head_word words' 0 ≡ head_word words 0 → head_word words' 1 ≡ head_word words 1
      → head_word words' 7 ≡ head_word words 7
      → SamePeers s.pieces s.blocks words words' → SameBlocks s.pieces s.blocks cells cells'
      → partials_held records words' cells' s.pieces s.blocks ≡ partials_held records words cells s.pieces s.blocks
  partials_stay words' cells' t z e p c =
      partials_same words words' cells cells' s.pieces s.blocks t z records records e (λ k l. refl) (λ k j l m.
      let q = place_room k l in
      let o : j < s.blocks = omega (arith, blocks_within (record_at records k).index) in
      block_same words words' cells cells' s.pieces s.blocks (record_at records k).info_idx j
      (λ f h. c f (record_at records k).info_idx j h q o) (λ y. p (record_at records k).info_idx j q o))

-- ---- that they stand
module _ (s : Shape) (records : List Record) (words cells words' cells' : List ℕ) where
  -- the words keep geometry and partials, their other lengths are in bounds, the cells keep their length
  pub bounds_kept : InBounds s records words cells → WordsKept s words words' → length cells' ≡ length cells
      → head_word words' 7 ≡ head_word words 7 → head_word words' 6 ≤ s.pieces
      → (yes? (head_word words' 5) ≡ true → head_word words' 6 ≡ 0) → head_word words' 8 ≤ max_extents → InBounds s records words' cells'
  unfolding pieces_on blocks_on
  bounds_kept r d c e list idle few =
      record {
        spans = record {
          in_words = record { sizes = r.spans.in_words.sizes; long = omega (arith, d.long, r.spans.in_words.long) };
          in_cells = record { sizes = r.spans.in_cells.sizes; long = omega (arith, c, r.spans.in_cells.long) };
        };
        geometry = ap₂ valid_geometry d.total_size d.piece_size ∙ r.geometry;
        pieces = r.pieces ∙ sym (ap₂ num_pieces d.total_size d.piece_size);
        blocks = r.blocks ∙ sym (ap whole_piece_blocks d.piece_size);
        list = list;
        idle = idle;
        partials = omega (arith, r.partials);
        live = omega (arith, r.live);
        recent_extents = few;
        placed = λ k l. r.placed k (omega arith);
        apart = λ k l a b q. r.apart k l (omega arith) (omega arith) q;
      }

  -- plain, where the flag of the list, the pieces and the blocks of live records are
  pub plain_kept : WordsKept s words words' → head_word words' 7 ≡ head_word words 7 → (head_word words 5 ≤ 1 → head_word words' 5 ≤ 1)
      → (PlainPieces s.pieces cells → PlainPieces s.pieces cells')
      → ((k j : ℕ) → k < head_word words 7 → j < blocks_of words (record_at records k).index
      → PlainBlock s.pieces s.blocks cells (record_at records k).info_idx j
      → PlainBlock s.pieces s.blocks cells' (record_at records k).info_idx j)
      → Plain s records words cells → Plain s records words' cells'
  plain_kept d e flag pieces blocks p =
      record {
        dirty = flag p.dirty;
        pieces = pieces p.pieces;
        partials = λ k l.
            let m : k < head_word words 7 = omega arith in
            record {
              flags = (p.partials k m).flags;
              blocks = λ j h.
                  let o : j < blocks_of words (record_at records k).index =
                  omega (
                    arith,
                    blocks_of_same words words' cells cells' s.pieces s.blocks d.total_size d.piece_size
                        (record_at records k).index,
                  ) in
                  blocks k j m o ((p.partials k m).blocks j o);
            };
      }

  -- what a change does to the picker for the shape, it does to the picker
  pub became_at : (change : Picker → Picker) → InBounds s records words cells → InBounds s records words' cells'
      → (Plain s records words cells → Plain s records words' cells')
      → decode_at s.pieces s.blocks records words' cells' ≡ change (decode_at s.pieces s.blocks records words cells)
      → Became s change records words cells words' cells'
  became_at change r b p e =
      record {
        is = decode_at_lem s records words' cells' b ∙ e ∙ ap change (sym (decode_at_lem s records words cells r));
        bounds = b;
        plain = p;
      }

-- nothing stored
pub words_kept_none : (s : Shape) (words : List ℕ) → WordsKept s words words
words_kept_none s words = record { long = refl; total_size = refl; piece_size = refl; beyond = λ k h. refl }

-- ---- stores into one buffer
module _ (s : Shape) (change : Picker → Picker) where
  -- into the words: geometry and partials stay, the other lengths stay in bounds, the flag of the list stays plain
  pub words_became : (words words' : List ℕ) → WordsKept s words words' → head_word words' 7 ≡ head_word words 7
      → (head_word words 6 ≤ s.pieces → head_word words' 6 ≤ s.pieces)
      → ((yes? (head_word words 5) ≡ true → head_word words 6 ≡ 0) → yes? (head_word words' 5) ≡ true → head_word words' 6 ≡ 0)
      → (head_word words 8 ≤ max_extents → head_word words' 8 ≤ max_extents) → (head_word words 5 ≤ 1 → head_word words' 5 ≤ 1)
      → ((records : List Record) (cells : List ℕ) → InBounds s records words cells
      → decode_at s.pieces s.blocks records words' cells ≡ change (decode_at s.pieces s.blocks records words cells))
      → WordsBecame s change words words'
  words_became words words' d e list idle few flag is =
      record {
        kept = d;
        became = λ records cells r.
            became_at s records words cells words' cells change r (bounds_kept s records words cells words' cells r d refl e
            (list r.list) (idle r.idle) (few r.recent_extents))
            (plain_kept s records words cells words' cells d e flag (λ p. p) (λ k j l m p. p)) (is records cells r);
      }

  -- into the cells: pieces and blocks of live records stay plain
  pub cells_became : (cells cells' : List ℕ) → CellsKept s cells cells'
      → (PlainPieces s.pieces cells → PlainPieces s.pieces cells')
      → ((p j : ℕ) → p < places_for s.pieces → j < s.blocks → PlainBlock s.pieces s.blocks cells p j
      → PlainBlock s.pieces s.blocks cells' p j)
      → ((records : List Record) (words : List ℕ) → InBounds s records words cells
      → decode_at s.pieces s.blocks records words cells' ≡ change (decode_at s.pieces s.blocks records words cells))
      → CellsBecame s change cells cells'
  cells_became cells cells' d pieces blocks is =
      record {
        kept = d;
        became = λ records words r.
            became_at s records words cells words cells' change r
            (bounds_kept s records words cells words cells' r (words_kept_none s words) d.long refl r.list r.idle
            r.recent_extents)
            (plain_kept s records words cells words cells' (words_kept_none s words) refl (λ p. p) pieces (λ k j l m p.
            blocks (record_at records k).info_idx j (place_room s records words cells r k l)
            (omega (arith, blocks_within s records words cells r (record_at records k).index)) p))
            (is records words r);
      }

-- ---- frames, one after another
-- two frames of words
pub words_kept_again : (s : Shape) (a b c : List ℕ) → WordsKept s a b → WordsKept s b c → WordsKept s a c
words_kept_again s a b c x y =
    record {
      long = y.long ∙ x.long;
      total_size = y.total_size ∙ x.total_size;
      piece_size = y.piece_size ∙ x.piece_size;
      beyond = λ k h. y.beyond k h ∙ x.beyond k h;
    }

-- nothing stored in the cells
pub cells_kept_none : (s : Shape) (cells : List ℕ) → CellsKept s cells cells
cells_kept_none s cells = record { long = refl; beyond = λ k h. refl }

-- two frames of cells
pub cells_kept_again : (s : Shape) (a b c : List ℕ) → CellsKept s a b → CellsKept s b c → CellsKept s a c
cells_kept_again s a b c x y = record { long = y.long ∙ x.long; beyond = λ k h. y.beyond k h ∙ x.beyond k h }

-- ---- changes, one after another
module _ (s : Shape) (f g : Picker → Picker) (records : List Record) where
  -- two changes
  pub became_again : (u v w x y z : List ℕ) → Became s f records u v w x → Became s g records w x y z
      → Became s (λ d. g (f d)) records u v y z
  became_again u v w x y z a b = record { is = b.is ∙ ap g a.is; bounds = b.bounds; plain = λ p. b.plain (a.plain p) }

  -- another name for the change
  pub became_named : (words cells words' cells' : List ℕ) → f (decode records words cells) ≡ g (decode records words cells)
      → Became s f records words cells words' cells' → Became s g records words cells words' cells'
  became_named words cells words' cells' e a = record { is = a.is ∙ e; bounds = a.bounds; plain = a.plain }

-- no change
pub became_none : (s : Shape) (records : List Record) (words cells : List ℕ) → InBounds s records words cells
    → Became s (λ d. d) records words cells words cells
became_none s records words cells r = record { is = refl; bounds = r; plain = λ p. p }

module _ (s : Shape) (f g : Picker → Picker) where
  -- two changes of the words
  pub words_again : (a b c : List ℕ) → WordsBecame s f a b → WordsBecame s g b c → WordsBecame s (λ d. g (f d)) a c
  words_again a b c x y =
      record {
        kept = words_kept_again s a b c x.kept y.kept;
        became = λ records cells r.
            let m = x.became records cells r in
            became_again s f g records a cells b cells c cells m (y.became records cells m.bounds);
      }

  -- two changes of the cells
  pub cells_again : (a b c : List ℕ) → CellsBecame s f a b → CellsBecame s g b c → CellsBecame s (λ d. g (f d)) a c
  cells_again a b c x y =
      record {
        kept = cells_kept_again s a b c x.kept y.kept;
        became = λ records words r.
            let m = x.became records words r in
            became_again s f g records words a words b words c m (y.became records words m.bounds);
      }

  -- another name for a change of the words
  pub words_named : (a b : List ℕ) → ((d : Picker) → f d ≡ g d) → WordsBecame s f a b → WordsBecame s g a b
  words_named a b e x =
      record {
        kept = x.kept;
        became = λ records cells r. became_named s f g records a cells b cells (e (decode records a cells)) (x.became records cells r);
      }

  -- of the cells
  pub cells_named : (a b : List ℕ) → ((d : Picker) → f d ≡ g d) → CellsBecame s f a b → CellsBecame s g a b
  cells_named a b e x =
      record {
        kept = x.kept;
        became = λ records words r. became_named s f g records words a words b (e (decode records words a)) (x.became records words r);
      }

  -- two changes of both
  pub both_again : (u v w x y z : List ℕ) → BothBecame s f u v x y → BothBecame s g v w y z → BothBecame s (λ d. g (f d)) u w x z
  both_again u v w x y z a b =
      record {
        words_kept = words_kept_again s u v w a.words_kept b.words_kept;
        cells_kept = cells_kept_again s x y z a.cells_kept b.cells_kept;
        became = λ records r.
            let m = a.became records r in
            became_again s f g records u x v y w z m (b.became records m.bounds);
      }

module _ (s : Shape) where
  -- no change of the words
  pub words_none : (words : List ℕ) → WordsBecame s (λ d. d) words words
  words_none words = record { kept = words_kept_none s words; became = λ records cells r. became_none s records words cells r }

  -- none of the cells
  pub cells_none : (cells : List ℕ) → CellsBecame s (λ d. d) cells cells
  cells_none cells = record { kept = cells_kept_none s cells; became = λ records words r. became_none s records words cells r }

  -- a change of the words alone, beside some cells
  pub both_words : (f : Picker → Picker) (words words' cells : List ℕ) → WordsBecame s f words words'
      → BothBecame s f words words' cells cells
  both_words f words words' cells x = record {
    words_kept = x.kept;
    cells_kept = cells_kept_none s cells;
    became = λ records r. x.became
        records cells r;
  }

  -- a change of the cells alone, beside some words
  pub both_cells : (f : Picker → Picker) (words cells cells' : List ℕ) → CellsBecame s f cells cells'
      → BothBecame s f words words cells cells'
  both_cells f words cells cells' x = record {
    words_kept = words_kept_none s words;
    cells_kept = x.kept;
    became = λ records r. x.became
        records words r;
  }

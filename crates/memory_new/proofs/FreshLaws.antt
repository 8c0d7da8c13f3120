-- Fresh words and cells are the new picker, and it stands in them. That it is well-formed is the model's. Assumes nothing.
use mathlib.Core.Path.{◌≡◌, refl, sym, ap, ap₂, ◌∙◌}
use mathlib.Core.Bool.{true, cond}
use mathlib.Core.List.{List, ◌∷◌, ◌++◌}
use Prim.Native.Nat.{ℕ, zero, suc, ◌+◌, ◌*◌, ◌≤◌, ◌<◌}
use native.Mathlib.Omega.{arith}
use lib.ListN.{length, get_or, drop, replicate}
use Rattle.model.specs.Lists.{nth}
use Rattle.model.specs.Bep3.{num_pieces, whole_piece_blocks}
use Rattle.model.specs.State.{dirty, fresh, valid_geometry, fresh_piece, new}
use Rattle.model.specs.image.WellFormed.{well_formed}
use Rattle.model.proofs.sound.NewSound.{new_sound}
use Rattle.model.proofs.sound.SoundLaws.{sound_well_formed}
use Rattle.memory_records.specs.declared.record.DownloadingPiece.{DownloadingPiece as Record}
use Rattle.memory_layout.specs.declared.shape.Shape.{Shape}
use Rattle.memory_layout.specs.Tables.{tabulate}
use Rattle.memory_layout.specs.Decode.{head_word, record_at, pieces_on, blocks_on, queue_from, yes?, piece_held, partial_held, pieces_held}
use Rattle.memory_layout.specs.Decode.{partials_held, extents_held, list_held, listing_held, decode}
use Rattle.memory_layout.specs.Bounds.{ShapeOf, InBounds, Plain, Sizes}
use Rattle.memory_layout.proofs.OffsetLaws.{words_from, cells_from}
use Rattle.memory_layout.proofs.TableLaws.{tabulate_ext}
use Rattle.memory_new.specs.Fresh.{Filled, fresh_head, FreshWords, FreshCells, Room, MadeNew}
use Rattle.memory_new.proofs.FillLaws.{head_long, head_at, words_fresh}

tabulate_same : {A : Type 0} (n : ℕ) (x : A) → tabulate n (λ k. x) ≡ replicate n x
unfolding tabulate
tabulate_same zero x = refl
tabulate_same {A = A} (suc n) x = ap (λ (l : List A). x ∷ l) (tabulate_same n x)

-- the shape of a head of these numbers
record Numbers (s : Shape) (total_size piece_size : ℕ) : Type 0 where
  sizes : Sizes s
  pieces : s.pieces ≡ num_pieces total_size piece_size
  blocks : s.blocks ≡ whole_piece_blocks piece_size

shape_numbers : (s : Shape) (total_size piece_size : ℕ) (words : List ℕ) → ShapeOf s words → get_or words 0 0 ≡ total_size → get_or words 1 0 ≡ piece_size
    → Numbers s total_size piece_size
unfolding pieces_on blocks_on head_word
shape_numbers s total_size piece_size words g a b = record {
  sizes = g.sizes;
  pieces = g.pieces ∙ ap₂ num_pieces a b;
  blocks = g.blocks ∙ ap whole_piece_blocks b;
}

module _ (s : Shape) (t z : ℕ) (words cells words' cells' : List ℕ) (valid : valid_geometry t z ≡ true) (shape : Numbers s t z)
    (w : FreshWords t z s.pieces words words') (c : FreshCells s.pieces cells cells') (room : Room t z words cells) where
  abbrev n : ℕ
  n = s.pieces

  -- ---- the words of the head
  record Head : Type 0 where
    total_size : head_word words' 0 ≡ t
    piece_size : head_word words' 1 ≡ z
    seeds : head_word words' 2 ≡ 0
    cursor : head_word words' 3 ≡ 0
    reverse_cursor : head_word words' 4 ≡ n
    dirty_list : head_word words' 5 ≡ 1
    places : head_word words' 6 ≡ 0
    partials : head_word words' 7 ≡ 0
    extents : head_word words' 8 ≡ 0

  heads : Head
  unfolding head_word fresh_head
  heads = record {
    total_size = w.head 0 (omega arith);
    piece_size = w.head 1 (omega arith);
    seeds = w.head 2 (omega arith);
    cursor = w.head 3 (omega arith);
    reverse_cursor = w.head 4 (omega arith);
    dirty_list = w.head 5 (omega arith);
    places = w.head 6 (omega arith);
    partials = w.head 7 (omega arith);
    extents = w.head 8 (omega arith);
  }

  pieces_on_lem : pieces_on words' ≡ n
  unfolding pieces_on
  pieces_on_lem = ap₂ num_pieces heads.total_size heads.piece_size ∙ sym shape.pieces

  shape_is : ShapeOf s words'
  unfolding blocks_on
  shape_is = record { sizes = shape.sizes; pieces = sym pieces_on_lem; blocks = shape.blocks ∙ sym (ap whole_piece_blocks heads.piece_size) }

  -- ---- the picker
  piece_is : (i : ℕ) → i < n → piece_held words' cells' n i ≡ fresh_piece
  unfolding piece_held fresh_piece queue_from yes? nth
  piece_is i h = λ k. record {
    peer_count = c.peers i h k;
    state = queue_from (c.states i h k);
    priority = c.priorities i h k;
    flushed = yes? (c.flushed i h k);
    pad_bytes = w.pads i h k;
  }

  pieces_are : pieces_held words' cells' (pieces_on words') ≡ replicate (num_pieces t z) fresh_piece
  unfolding pieces_held
  pieces_are =
      ap (λ (m : ℕ). tabulate m (piece_held words' cells' m)) pieces_on_lem
      ∙ tabulate_ext n (piece_held words' cells' n) (λ i. fresh_piece) piece_is
      ∙ tabulate_same n fresh_piece
      ∙ ap (λ (m : ℕ). replicate m fresh_piece) shape.pieces

  made : (records : List Record) → decode records words' cells' ≡ new t z
  unfolding new partials_held extents_held listing_held tabulate yes?
  made records =
      let b = blocks_on words' in
      λ k. record {
        total_size = heads.total_size k;
        piece_size = heads.piece_size k;
        seeds = heads.seeds k;
        cursor = heads.cursor k;
        reverse_cursor = (heads.reverse_cursor ∙ shape.pieces) k;
        pieces = pieces_are k;
        partials = tabulate (heads.partials k) (λ j. partial_held words' cells' (pieces_on words') b (record_at records j));
        recent_extents = tabulate (heads.extents k) (λ j. head_word words' (9 + j));
        listing = cond (yes? (heads.dirty_list k)) dirty (fresh (list_held words' (pieces_on words')));
      }

  -- ---- what stands
  bounds : (records : List Record) → InBounds s records words' cells'
  bounds records =
      let h = heads in
      record {
        spans = record {
          in_words = record { sizes = shape.sizes; long = rw (shape.pieces, shape.blocks) (omega (arith, room.in_words, w.long)) };
          in_cells = record { sizes = shape.sizes; long = rw (shape.pieces, shape.blocks) (omega (arith, room.in_cells, c.long)) };
        };
        geometry = ap₂ valid_geometry h.total_size h.piece_size ∙ valid;
        pieces = shape_is.pieces;
        blocks = shape_is.blocks;
        list = omega arith;
        idle = λ e. h.places;
        partials = omega arith;
        live = omega arith;
        recent_extents = omega arith;
        placed = λ k l. absurd (omega arith);
        apart = λ k l a b e. absurd (omega arith);
      }

  plain : (records : List Record) → Plain s records words' cells'
  plain records =
      let h = heads in
      record {
        dirty = omega arith;
        pieces = record {
          states = λ i l. omega (arith, c.states i l);
          flushed = λ i l. omega (arith, c.flushed i l);
        };
        partials = λ k l. absurd (omega arith);
      }

  new_stands : MadeNew s t z words cells words' cells'
  new_stands = record {
    shape = shape_is;
    is = made;
    stands = λ records. record {
      bounds = bounds records;
      plain = plain records;
      ranks = λ k l. absurd (omega (arith, heads.places));
      sound = ap well_formed (made records) ∙ sound_well_formed (new t z) (new_sound t z valid);
    };
    words_long = w.long;
    words_beyond = λ k l. w.beyond k (omega (arith, words_from s.pieces s.blocks));
    cells_long = c.long;
    cells_beyond = λ k l. c.beyond k (omega (arith, cells_from s.pieces s.blocks));
  }

-- ---- step by step: a head is stored, its shape is read, words and cells are filled
pub head_room : (t z : ℕ) (words cells : List ℕ) → Room t z words cells → 16 ≤ length words
head_room t z words cells room = omega (arith, words_from (num_pieces t z) (whole_piece_blocks z), room.in_words)

module _ (t z m : ℕ) (words cells mid : List ℕ) (valid : valid_geometry t z ≡ true) (room : Room t z words cells) (em : m ≡ num_pieces t z)
    (e : mid ≡ fresh_head t z m ++ drop 9 words) where
  long : 16 ≤ length words
  long = head_room t z words cells room

  pub mid_room : 16 ≤ length mid
  mid_room = omega (arith, long, head_long t z m words mid long e)

  mid_total : get_or mid 0 0 ≡ t
  unfolding fresh_head
  mid_total = head_at t z m words mid long e 0 (omega arith)

  mid_size : get_or mid 1 0 ≡ z
  unfolding fresh_head
  mid_size = head_at t z m words mid long e 1 (omega arith)

  pub mid_valid : valid_geometry (head_word mid 0) (head_word mid 1) ≡ true
  unfolding head_word
  mid_valid = ap₂ valid_geometry mid_total mid_size ∙ valid

  module _ (s : Shape) (g : ShapeOf s mid) where
    numbers : Numbers s t z
    numbers = shape_numbers s t z mid g mid_total mid_size

    pub words_room : 16 + s.pieces ≤ length mid
    words_room =
        omega (
          arith,
          words_from (num_pieces t z) (whole_piece_blocks z),
          room.in_words,
          numbers.pieces,
          head_long t z m words mid long e,
        )

    pub cells_room : 4 * s.pieces ≤ length cells
    cells_room = omega (arith, cells_from (num_pieces t z) (whole_piece_blocks z), room.in_cells, numbers.pieces)

    pub made-new : (words' cells' : List ℕ) → Filled 16 (16 + s.pieces) 0 mid words' → FreshCells s.pieces cells cells'
        → MadeNew s t z words cells words' cells'
    made-new words' cells' f c =
        let h : m ≡ s.pieces = em ∙ sym numbers.pieces in
        let e' : mid ≡ fresh_head t z s.pieces ++ drop 9 words = e ∙ ap (λ (k : ℕ). fresh_head t z k ++ drop 9 words) h in
        new_stands s t z words cells words' cells' valid numbers (words_fresh t z s.pieces words mid long e' words' f) c room

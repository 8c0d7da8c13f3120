-- An image stored part by part is the picker that its bytes are accepted as, and it stands in the buffers. Assumes nothing.
use mathlib.Core.Path.{◌≡◌, refl, sym, ap, ap₂, ◌∙◌, subst}
use mathlib.Core.Bool.{Bool, true, false, cond}
use mathlib.Core.List.{List, [], ◌++◌}
use Prim.Native.Nat.{ℕ, ◌+◌, ◌*◌, ◌-◌, ◌≤◌, ◌<◌}
use native.Mathlib.Omega.{arith}
use lib.Dec.{eqb}
use lib.ListN.{length, get_or, drop, length-append, length-drop, get_or-append}
use lib.Seq.{get_or-append-add, get_or-drop}
use Rattle.model.specs.Lists.{nth, len, bit}
use Rattle.model.specs.Bep3.{num_pieces, whole_piece_blocks}
use Rattle.model.specs.State.{Piece, Picker, dirty, fresh, max_extents, no_piece, valid_geometry, with_pieces}
use Rattle.model.specs.State.{with_partials}
use Rattle.model.specs.State.{with_recent_extents, with_listing, piece_at, pieces_in, blocks_per_piece}
use Rattle.model.specs.list.Order.{bucket, rank_of, rank}
use Rattle.model.specs.image.WellFormed.{well_formed}
use Rattle.model.specs.image.Image.{got, field, piece_of, get_extents, accepted, read_image}
use Rattle.model.proofs.image.Codec.{got_value, got_rest}
use Rattle.model.proofs.image.ImageLaws.{accepted-image}
use Rattle.list_entries.specs.Words.{listed_piece, listed_rank}
use Rattle.list_entries.proofs.WordLaws.{piece_of_word, rank_of_word}
use Rattle.memory_records.specs.declared.record.DownloadingPiece.{DownloadingPiece as Record}
use Rattle.memory_records.specs.Rows.{row_at}
use Rattle.memory_layout.specs.declared.shape.Shape.{Shape}
use Rattle.memory_layout.specs.Tables.{tabulate}
use Rattle.memory_layout.specs.Offsets.{cell, piece_word_at, piece_cell_at, peer_at, words_for, cells_for}
use Rattle.memory_layout.specs.Decode.{head_word, piece_word, peer_word, piece_cell, record_at, pieces_on, blocks_on, blocks_of, queue_from, yes?}
use Rattle.memory_layout.specs.Decode.{piece_held, partial_held, pieces_held, partials_held, extents_held, list_held, listing_held, decode}
use Rattle.memory_layout.specs.Bounds.{ShapeOf, InBounds, Plain, PlainRecord, RanksHeld}
use Rattle.memory_layout.specs.Standing.{Stands}
use Rattle.memory_layout.proofs.TableLaws.{tabulate-len, tabulate-nth, tabulate_ext}
use Rattle.memory_layout.proofs.OffsetLaws.{places_min, words_from, cells_from, peer_from, piece_cell_below}
use Rattle.image_pieces.specs.declared.head.Head.{Head}
use Rattle.image_pieces.specs.Heads.{head_picker}
use Rattle.image_pieces.specs.Pieces.{piece_body, piece_in, first_pieces}
use Rattle.image_pieces.proofs.HeadLaws.{HeadGot, head_valid}
use Rattle.image_tail.specs.Extents.{extent_at, extents_before}
use Rattle.image_judge.specs.Fronts.{body_picker}
use Rattle.image_columns.specs.Columns.{head_words, PiecesStored}
use Rattle.image_store.specs.declared.partials.Walk.{Walk}
use Rattle.image_store.specs.Given.{rank_in, place_word, Tail, PartialsGot}
use Rattle.image_store.specs.Storing.{rows_held, Begun, PartialsStored}
use Rattle.image_store.specs.Stored.{TailStored, RowsAre, Standing, Room}
use Rattle.image_store.proofs.HeldLaws.{SameAt, partial_same, plain_same}
use Rattle.image_store.proofs.StoreLaws.{begun_on, blocks_few}
use Rattle.image_store.proofs.PartLaws.{image_got, Parts, parts, pieces_in_lem, blocks_in, TailFound, tail_found, extents_one, tail_of}

-- ---- the head
module _ (head : Head) (words mid : List ℕ) (long : 16 ≤ length words) (e : mid ≡ head_words head ++ drop 6 words) where
  six : length (head_words head) ≡ 6
  unfolding head_words
  six = refl

  pub head_long : length mid ≡ length words
  head_long = ap length e ∙ omega (arith, six, length-append (head_words head) (drop 6 words), length-drop 6 words)

  pub head_at : (k : ℕ) → k < 6 → get_or mid k 0 ≡ get_or (head_words head) k 0
  head_at k m = ap (λ (x : List ℕ). get_or x k 0) e ∙ get_or-append (head_words head) (drop 6 words) 0 k (omega (arith, six))

  pub head_behind : (k : ℕ) → 6 ≤ k → get_or mid k 0 ≡ get_or words k 0
  head_behind k m =
      let a : k ≡ length (head_words head) + (k - 6) = omega (arith, six) in
      let b : 6 + (k - 6) ≡ k = omega arith in
      ap (λ (x : List ℕ). get_or x k 0) e ∙ ap (λ (j : ℕ). get_or (head_words head ++ drop 6 words) j 0) a
      ∙ get_or-append-add (head_words head) (drop 6 words) (k - 6) 0 ∙ get_or-drop 6 words (k - 6) 0 ∙ ap (λ (j : ℕ). get_or words j 0) b

  pub mid_total : head_word mid 0 ≡ head.total
  unfolding head_word head_words
  mid_total = head_at 0 (omega arith)

  pub mid_size : head_word mid 1 ≡ head.size
  unfolding head_word head_words
  mid_size = head_at 1 (omega arith)

-- ---- the shape of the picker's geometry
module _ (bytes words cells : List ℕ) (p : Picker) (e : read_image bytes ≡ accepted p) (room : Room bytes words cells) (head : Head)
    (g : HeadGot bytes head) where
  abbrev n : ℕ
  n = num_pieces head.total head.size

  pieces_are_in : pieces_in p ≡ n
  pieces_are_in = pieces_in_lem bytes p e head g

  blocks_are_in : blocks_per_piece p ≡ whole_piece_blocks head.size
  blocks_are_in = blocks_in bytes p e head g

  pub words_room : words_for n (whole_piece_blocks head.size) ≤ length words
  words_room = rw (← pieces_are_in, ← blocks_are_in) (room p e).0

  pub cells_room : cells_for n (whole_piece_blocks head.size) ≤ length cells
  cells_room = rw (← pieces_are_in, ← blocks_are_in) (room p e).1

  pub head_room : 16 ≤ length words
  head_room = omega (arith, words_from n (whole_piece_blocks head.size), words_room)

  -- ---- the head is stored
  module _ (mid : List ℕ) (em : mid ≡ head_words head ++ drop 6 words) where
    pub mid_room : 16 ≤ length mid
    mid_room = omega (arith, head_room, head_long head words mid head_room em)

    pub mid_valid : valid_geometry (head_word mid 0) (head_word mid 1) ≡ true
    mid_valid = ap₂ valid_geometry (mid_total head words mid head_room em) (mid_size head words mid head_room em) ∙ head_valid head
        g.headed.ok

    module _ (s : Shape) (shape : ShapeOf s mid) where
      pub shape_pieces : s.pieces ≡ n
      unfolding pieces_on
      shape_pieces = shape.pieces ∙ ap₂ num_pieces (mid_total head words mid head_room em) (mid_size head words mid head_room em)

      pub shape_blocks : s.blocks ≡ whole_piece_blocks head.size
      unfolding blocks_on
      shape_blocks = shape.blocks ∙ ap whole_piece_blocks (mid_size head words mid head_room em)

      words_need : words_for s.pieces s.blocks ≤ length mid
      words_need = rw (shape_pieces, shape_blocks) (omega (arith, words_room, head_long head words mid head_room em))

      cells_need : cells_for s.pieces s.blocks ≤ length cells
      cells_need = rw (shape_pieces, shape_blocks) cells_room

      pub shaped_parts : Parts head s.pieces bytes p
      shaped_parts = parts bytes head g s.pieces shape_pieces p (image_got bytes p e)

      pub words_wide : 16 + 2 * s.pieces ≤ length mid
      words_wide = omega (arith, words_from s.pieces s.blocks, words_need)

      pub cells_wide : 4 * s.pieces ≤ length cells
      cells_wide = omega (arith, cells_from s.pieces s.blocks, cells_need)

      -- ---- the pieces are stored
      module _ (words₂ cells₂ : List ℕ) (ps : PiecesStored s.pieces bytes mid cells words₂ cells₂) where
        pub begun : Begun head s bytes words₂ cells₂
        unfolding head_word
        begun = record {
          spans = record {
            in_words = record { sizes = shape.sizes; long = omega (arith, words_need, ps.words_long) };
            in_cells = record { sizes = shape.sizes; long = omega (arith, cells_need, ps.cells_long) };
          };
          total_size = ps.words_below 0 (omega arith) ∙ mid_total head words mid head_room em;
          piece_size = ps.words_below 1 (omega arith) ∙ mid_size head words mid head_room em;
          pieces = shape_pieces;
          blocks = shape_blocks;
          headed = g.headed;
          told = shaped_parts.told;
        }

        pub partials_got : PartialsGot head s.pieces bytes
        partials_got = let x = shaped_parts in record { partials = x.partials; rest = x.partials_rest; is = x.partials_are }

        -- ---- the partials are stored
        module _ (words₃ cells₃ rows rows₃ : List ℕ) (w : Walk)
            (ds : PartialsStored head s bytes words₂ cells₂ rows words₃ cells₃ rows₃ w) where
          rest_is : shaped_parts.partials_rest ≡ drop w.at bytes
          rest_is = got_rest (sym shaped_parts.partials_are ∙ ds.is)

          partials_are : rows_held s w.many rows₃ words₃ cells₃ ≡ shaped_parts.partials
          partials_are = got_value (sym ds.is ∙ shaped_parts.partials_are)

          found : TailFound head s.pieces w.at bytes shaped_parts.extents shaped_parts.listing
          found =
              let x = shaped_parts in
              tail_found head s.pieces w.at bytes x.partials x.extents x.extents_rest x.listing ds.room
              (subst (λ (l : List ℕ). get_extents (body_picker head s.pieces bytes x.partials) max_extents [] l
              ≡ got x.extents x.extents_rest) rest_is x.extents_are)
              x.listing_is

          pub tail_there : Tail w.at s.pieces bytes
          tail_there = tail_of head s.pieces w.at bytes shaped_parts.extents shaped_parts.listing found

          pub few_live : w.many ≤ 512
          few_live = omega (arith, ds.few, shape.sizes.places, places_min s.pieces)

          pub tail_room : 16 + 2 * s.pieces ≤ length words₃
          tail_room = omega (arith, words_wide, ps.words_long, ds.moved.words_long)

          -- ---- all is stored
          module _ (ranks words₄ : List ℕ) (known : (i : ℕ) → i < s.pieces → get_or ranks i 0 ≡ rank_in head.seeds bytes i)
              (t : TailStored s.pieces w.at w.many ranks bytes words₃ words₄) where
            extents_same : found.extents ≡ t.extents
            extents_same = extents_one w.at bytes found.extents t.extents found.are t.are

            places_same : found.places ≡ t.places
            places_same = omega (arith, found.list.fills, t.list.fills, extents_same)

            -- the words of the head
            head_words_lem : (k : ℕ) → k < 6 → head_word words₄ k ≡ get_or (head_words head) k 0
            unfolding head_word
            head_words_lem k h =
                t.below k h ∙ ds.moved.words_below k (omega arith) ∙ ps.words_below k (omega arith)
                ∙ head_at head words mid head_room em k h

            total_is : head_word words₄ 0 ≡ head.total
            unfolding head_words
            total_is = head_words_lem 0 (omega arith)

            size_is : head_word words₄ 1 ≡ head.size
            unfolding head_words
            size_is = head_words_lem 1 (omega arith)

            seeds_is : head_word words₄ 2 ≡ head.seeds
            unfolding head_words
            seeds_is = head_words_lem 2 (omega arith)

            cursor_is : head_word words₄ 3 ≡ head.cursor
            unfolding head_words
            cursor_is = head_words_lem 3 (omega arith)

            reverse_is : head_word words₄ 4 ≡ head.reverse_cursor
            unfolding head_words
            reverse_is = head_words_lem 4 (omega arith)

            flag_is : head_word words₄ 5 ≡ bit head.dirty
            unfolding head_words
            flag_is = head_words_lem 5 (omega arith)

            pieces_on_lem : pieces_on words₄ ≡ s.pieces
            unfolding pieces_on
            pieces_on_lem = ap₂ num_pieces total_is size_is ∙ sym shape_pieces

            blocks_on_lem : blocks_on words₄ ≡ s.blocks
            unfolding blocks_on
            blocks_on_lem = ap whole_piece_blocks size_is ∙ sym shape_blocks

            shape_is : ShapeOf s words₄
            shape_is = record { sizes = shape.sizes; pieces = sym pieces_on_lem; blocks = sym blocks_on_lem }

            -- ---- pieces
            pad_is : (i : ℕ) → i < s.pieces → piece_word words₄ s.pieces 0 i ≡ field 5 4 (piece_body bytes i)
            unfolding piece_word piece_word_at cell
            pad_is i h =
                t.pads (16 + (0 * s.pieces + i)) (omega arith) (omega arith)
                ∙ ds.moved.words_below (16 + (0 * s.pieces + i)) (omega arith) ∙ ps.pads i h

            cell_is : (f i : ℕ) → f < 4 → i < s.pieces → piece_cell cells₃ s.pieces f i ≡ piece_cell cells₂ s.pieces f i
            unfolding piece_cell
            cell_is f i hf h = ds.moved.cells_below (piece_cell_at s.pieces f i) (piece_cell_below s.pieces f i hf h)

            piece_is : (i : ℕ) → i < s.pieces → piece_held words₄ cells₃ s.pieces i ≡ piece_in bytes i
            unfolding piece_held piece_in piece_of queue_from yes?
            piece_is i h = λ k. record {
              peer_count = (cell_is 0 i (omega arith) h ∙ ps.counts i h) k;
              state = queue_from ((cell_is 1 i (omega arith) h ∙ ps.states i h) k);
              priority = (cell_is 2 i (omega arith) h ∙ ps.priorities i h) k;
              flushed = yes? ((cell_is 3 i (omega arith) h ∙ ps.flushed i h) k);
              pad_bytes = pad_is i h k;
            }

            pieces_are : pieces_held words₄ cells₃ (pieces_on words₄) ≡ first_pieces bytes s.pieces
            unfolding pieces_held first_pieces
            pieces_are =
                ap (λ (m : ℕ). tabulate m (piece_held words₄ cells₃ m)) pieces_on_lem
                ∙ tabulate_ext s.pieces (piece_held words₄ cells₃ s.pieces) (piece_in bytes) piece_is

            -- ---- partials
            begun₃ : Begun head s bytes words₃ cells₃
            begun₃ = begun_on head s bytes words₂ cells₂ words₃ cells₃ begun ds.moved

            same_at : (j : ℕ) → SameAt s.pieces s.blocks j words₃ cells₃ words₄ cells₃
            unfolding head_word peer_word
            same_at j = record {
              total_size = t.below 0 (omega arith);
              piece_size = t.below 1 (omega arith);
              cells_same = λ f k hf hk. refl;
              peers_same = λ k hk. t.behind (peer_at s.pieces s.blocks j k) (peer_from s.pieces s.blocks j k);
            }

            module _ (records : List Record) (rows_are : RowsAre w.many rows₃ records) where
              few_blocks : (r : Record) → blocks_of words₃ r.index ≤ s.blocks
              few_blocks r = blocks_few head s bytes words₃ cells₃ begun₃ r.index

              partials_held_lem : partials_held records words₄ cells₃ (pieces_on words₄) (blocks_on words₄) ≡ shaped_parts.partials
              unfolding partials_held rows_held
              partials_held_lem =
                  ap₂ (λ (m b : ℕ). tabulate (head_word words₄ 7)
                  (λ k. partial_held words₄ cells₃ m b (record_at records k))) pieces_on_lem blocks_on_lem
                  ∙ ap (λ (m : ℕ). tabulate m (λ k. partial_held words₄ cells₃ s.pieces s.blocks (record_at records k))) t.partials
                  ∙ tabulate_ext w.many (λ k. partial_held words₄ cells₃ s.pieces s.blocks (record_at records k))
                  (λ k. partial_held words₃ cells₃ s.pieces s.blocks (row_at rows₃ k))
                  (λ k l.
                  ap (partial_held words₄ cells₃ s.pieces s.blocks) (rows_are.are k l)
                  ∙ partial_same s.pieces s.blocks k words₃ cells₃ words₄ cells₃ (same_at k) (row_at rows₃ k) (ds.placed k l)
                  (few_blocks (row_at rows₃ k)))
                  ∙ partials_are

              -- ---- extents and list
              extents_held_lem : extents_held words₄ ≡ shaped_parts.extents
              unfolding extents_held extents_before
              extents_held_lem =
                  ap (λ (m : ℕ). tabulate m (λ k. head_word words₄ (9 + k))) t.extent_count
                  ∙ tabulate_ext t.extents (λ k. head_word words₄ (9 + k)) (extent_at w.at bytes) t.extent
                  ∙ ap (λ (m : ℕ). tabulate m (extent_at w.at bytes)) (sym extents_same)
                  ∙ sym found.extents_is

              abbrev start : ℕ
              start = w.at + 5 * t.extents

              -- the piece of a place, and its rank
              low : (k : ℕ) → k < t.places → extent_at start bytes k < 65536
              low k h = omega (arith, t.list.low k h, shape.sizes.many)

              listed_piece_lem : (k : ℕ) → k < t.places → listed_piece (piece_word words₄ s.pieces 1 k) ≡ extent_at start bytes k
              unfolding place_word
              listed_piece_lem k h =
                  ap listed_piece (t.word k h)
                  ∙ piece_of_word (get_or ranks (extent_at start bytes k) 0) (extent_at start bytes k) (low k h)

              listed_rank_lem : (k : ℕ) → k < t.places
                  → listed_rank (piece_word words₄ s.pieces 1 k) ≡ rank_in head.seeds bytes (extent_at start bytes k)
              unfolding place_word
              listed_rank_lem k h =
                  ap listed_rank (t.word k h)
                  ∙ rank_of_word (get_or ranks (extent_at start bytes k) 0) (extent_at start bytes k) (low k h)
                  ∙ known (extent_at start bytes k) (t.list.low k h)

              list_held_lem : list_held words₄ (pieces_on words₄) ≡ extents_before (w.at + 5 * found.extents) found.places bytes
              unfolding list_held extents_before
              list_held_lem =
                  ap (λ (m : ℕ). tabulate (head_word words₄ 6) (λ k. listed_piece (piece_word words₄ m 1 k))) pieces_on_lem
                  ∙ ap (λ (m : ℕ). tabulate m (λ k. listed_piece (piece_word words₄ s.pieces 1 k))) t.list_length
                  ∙ tabulate_ext t.places (λ k. listed_piece (piece_word words₄ s.pieces 1 k)) (extent_at start bytes) listed_piece_lem
                  ∙ ap₂ (λ (x m : ℕ). tabulate m (extent_at (w.at + 5 * x) bytes)) (sym extents_same) (sym places_same)

              dirty_is : yes? (head_word words₄ 5) ≡ head.dirty
              unfolding yes?
              dirty_is = ap (λ (x : ℕ). eqb x 1) flag_is ∙ go head.dirty
                where
                  go : (d : Bool) → eqb (bit d) 1 ≡ d
                  go true = refl
                  go false = refl

              listing_held_lem : listing_held words₄ (pieces_on words₄) ≡ shaped_parts.listing
              unfolding listing_held
              listing_held_lem =
                  ap₂ (λ (d : Bool) (l : List ℕ). cond d dirty (fresh l)) dirty_is list_held_lem ∙ sym found.listing_is

              -- ---- the picker
              pub made : decode records words₄ cells₃ ≡ p
              unfolding with_listing with_recent_extents body_picker with_partials with_pieces head_picker
              made =
                  (λ k. record {
                    total_size = total_is k;
                    piece_size = size_is k;
                    seeds = seeds_is k;
                    cursor = cursor_is k;
                    reverse_cursor = reverse_is k;
                    pieces = pieces_are k;
                    partials = partials_held_lem k;
                    recent_extents = extents_held_lem k;
                    listing = listing_held_lem k;
                  })
                  ∙ shaped_parts.is

              -- ---- it stands
              place_is : (k : ℕ) → k < head_word words₄ 7 → (record_at records k).info_idx ≡ k
              place_is k h =
                  let l : k < w.many = omega (arith, t.partials) in
                  ap (λ (r : Record). r.info_idx) (rows_are.are k l) ∙ ds.placed k l

              bounds : InBounds s records words₄ cells₃
              bounds = record {
                spans = record {
                  in_words = record { sizes = shape.sizes; long = omega (arith, begun₃.spans.in_words.long, t.long) };
                  in_cells = begun₃.spans.in_cells;
                };
                geometry = ap₂ valid_geometry total_is size_is ∙ head_valid head g.headed.ok;
                pieces = shape_is.pieces;
                blocks = shape_is.blocks;
                list = omega (arith, t.list_length, t.list.few);
                idle = λ d. t.list_length ∙ sym places_same ∙ found.idle (sym dirty_is ∙ d);
                partials = omega (arith, t.partials, ds.few);
                live = omega (arith, t.partials, rows_are.many);
                recent_extents = omega (arith, t.extent_count, t.are.most);
                placed = λ k h. omega (arith, place_is k h, t.partials, ds.few);
                apart = λ k l hk hl q. sym (place_is k hk) ∙ q ∙ place_is l hl;
              }

              plain : Plain s records words₄ cells₃
              plain = record {
                dirty = omega (arith, flag_is, bit_most head.dirty);
                pieces = record {
                  states = λ i h. omega (arith, cell_is 1 i (omega arith) h, ps.states i h, (shaped_parts.told.told i h).state);
                  flushed = λ i h. omega (arith, cell_is 3 i (omega arith) h, ps.flushed i h, (shaped_parts.told.told i h).flushed);
                };
                partials = λ k h.
                    let l : k < w.many = omega (arith, t.partials) in
                    subst (PlainRecord s.pieces s.blocks words₄ cells₃) (sym (rows_are.are k l))
                    (plain_same s.pieces s.blocks k words₃ cells₃ words₄ cells₃ (same_at k) (row_at rows₃ k) (ds.placed k l)
                    (few_blocks (row_at rows₃ k)) (ds.plain k l));
              }
                where
                  bit_most : (d : Bool) → bit d ≤ 1
                  bit_most true = omega arith
                  bit_most false = omega arith

              rank_is : (i : ℕ) → i < s.pieces → rank (decode records words₄ cells₃) i ≡ rank_in head.seeds bytes i
              unfolding rank piece_at rank_in pieces_held first_pieces
              rank_is i h =
                  ap₂ (λ (x : ℕ) (ps : List Piece). rank_of (bucket x (nth no_piece ps i))) seeds_is pieces_are
                  ∙ ap (λ (x : Piece). rank_of (bucket head.seeds x)) (first_piece i h)
                where
                  first_piece : (i : ℕ) → i < s.pieces → nth no_piece (first_pieces bytes s.pieces) i ≡ piece_in bytes i
                  first_piece i h = tabulate-nth s.pieces (piece_in bytes) i no_piece h

              ranks_beside : RanksHeld s.pieces words₄ (rank (decode records words₄ cells₃))
              ranks_beside k h =
                  let l : k < t.places = omega (arith, t.list_length) in
                  listed_rank_lem k l ∙ sym (rank_is (extent_at start bytes k) (t.list.low k l))
                  ∙ ap (rank (decode records words₄ cells₃)) (sym (listed_piece_lem k l))

              pub stands : Stands s records words₄ cells₃
              stands = record {
                bounds = bounds;
                plain = plain;
                ranks = ranks_beside;
                sound = ap well_formed made ∙ (accepted-image bytes p e).1;
              }

            many_is : w.many ≡ len p.partials
            unfolding rows_held with_listing with_recent_extents body_picker with_partials
            many_is =
                sym (tabulate-len w.many (λ j. partial_held words₃ cells₃ s.pieces s.blocks (row_at rows₃ j)))
                ∙ ap len partials_are ∙ ap (λ (x : Picker). len x.partials) shaped_parts.is

            needs_words : words_for (pieces_in p) (blocks_per_piece p) ≡ words_for s.pieces s.blocks
            needs_words = ap₂ words_for (pieces_are_in ∙ sym shape_pieces) (blocks_are_in ∙ sym shape_blocks)

            needs_cells : cells_for (pieces_in p) (blocks_per_piece p) ≡ cells_for s.pieces s.blocks
            needs_cells = ap₂ cells_for (pieces_are_in ∙ sym shape_pieces) (blocks_are_in ∙ sym shape_blocks)

            pub standing : Standing p w.many words cells words₄ cells₃ rows₃
            standing = record {
              shape = s;
              fits = shape_is;
              many = many_is;
              is = made;
              stands = stands;
              words_long = t.long ∙ ds.moved.words_long ∙ ps.words_long ∙ head_long head words mid head_room em;
              cells_long = ds.moved.cells_long ∙ ps.cells_long;
              words_beyond = λ k h.
                  let l : words_for s.pieces s.blocks ≤ k = omega (arith, needs_words) in
                  let m = words_from s.pieces s.blocks in
                  t.behind k (omega arith) ∙ ds.moved.words_beyond k l ∙ ps.words_behind k (omega arith)
                  ∙ head_behind head words mid head_room em k (omega arith);
              cells_beyond = λ k h.
                  let l : cells_for s.pieces s.blocks ≤ k = omega (arith, needs_cells) in
                  let m = cells_from s.pieces s.blocks in
                  ds.moved.cells_beyond k l ∙ ps.cells_behind k (omega arith);
            }

-- The walk over the pieces that stores their partials. Assumes nothing.
use mathlib.Core.Path.{◌≡◌, refl, sym, ap, ap₂, ◌∙◌, subst}
use mathlib.Core.Bool.{true, false}
use mathlib.Core.List.{List, [], ◌∷◌, ◌++◌, append-nil}
use Prim.Native.Nat.{ℕ, suc, ◌+◌, ◌*◌, ◌≤◌, ◌<◌}
use native.Mathlib.Omega.{arith}
use native.Mathlib.Decide.{ℕ_discrete}
use lib.ListN.{length, drop}
use Rattle.model.specs.Bep3.{piece_blocks}
use Rattle.model.specs.State.{Piece, DownloadingPiece, is_open, blocks_in_piece}
use Rattle.model.specs.image.Image.{Got, got, ret, next, partial_with, get_partial, get_partials}
use Rattle.model.proofs.base.Bep3Laws.{blocks_in_piece_le}
use Rattle.model.proofs.image.Codec.{next_back}
use Rattle.model.proofs.image.Parts.{open_read, shut_read}
use Rattle.geometry.proofs.ValidLaws.{bounds}
use Rattle.memory_records.specs.declared.record.DownloadingPiece.{DownloadingPiece as Record}
use Rattle.memory_records.specs.Rows.{row_at}
use Rattle.memory_records.proofs.laws.RowLaws.{put_here, put_other, length_put}
use Rattle.memory_layout.specs.declared.shape.Shape.{Shape}
use Rattle.memory_layout.specs.Tables.{tabulate}
use Rattle.memory_layout.specs.Offsets.{places_for}
use Rattle.memory_layout.specs.Decode.{head_word, blocks_of, partial_held}
use Rattle.memory_layout.specs.Bounds.{PlainRecord}
use Rattle.memory_layout.proofs.OffsetLaws.{places_min}
use Rattle.check_pieces.proofs.Tails.{tail, tail_all, tail_next, tail_end}
use Rattle.image_pieces.specs.declared.head.Head.{Head}
use Rattle.image_pieces.specs.Heads.{head_picker}
use Rattle.image_pieces.specs.Pieces.{piece_place, piece_in, first_pieces}
use Rattle.image_pieces.proofs.NextLaws.{next-got, next_start, next_behind}
use Rattle.image_pieces.proofs.HeadLaws.{head_valid}
use Rattle.image_columns.specs.Columns.{block_in, flags_at, BlocksMoved, PartialStored}
use Rattle.image_store.specs.declared.partials.Walk.{Walk}
use Rattle.image_store.specs.Given.{PartialsGot}
use Rattle.image_store.specs.Storing.{rows_held, pieces_from, Begun, Storing, Passed, PartialsStored}
use Rattle.image_store.proofs.FoundLaws.{PartialFound, partial_found}
use Rattle.image_store.proofs.HeldLaws.{SameAt, partial_same, plain_same, stored_partial, stored_plain, rows_same, rows_more}

-- ---- pieces that are left
from_next : (bytes : List ℕ) (i n : ℕ) → i < n → pieces_from bytes i n ≡ piece_in bytes i ∷ pieces_from bytes (i + 1) n
unfolding pieces_from tail
from_next bytes i n h = tail_next (piece_in bytes) i n h

-- ---- nothing moved
pub moved_none : (s : Shape) (words cells : List ℕ) → BlocksMoved s words cells words cells
moved_none s words cells = record {
  words_long = refl;
  cells_long = refl;
  words_below = λ q h. refl;
  words_beyond = λ q h. refl;
  cells_below = λ q h. refl;
  cells_beyond = λ q h. refl;
}

pub moved_on : (s : Shape) (words cells words' cells' words'' cells'' : List ℕ) → BlocksMoved s words cells words' cells'
    → BlocksMoved s words' cells' words'' cells'' → BlocksMoved s words cells words'' cells''
moved_on s words cells words' cells' words'' cells'' a b = record {
  words_long = b.words_long ∙ a.words_long;
  cells_long = b.cells_long ∙ a.cells_long;
  words_below = λ q h. b.words_below q h ∙ a.words_below q h;
  words_beyond = λ q h. b.words_beyond q h ∙ a.words_beyond q h;
  cells_below = λ q h. b.cells_below q h ∙ a.cells_below q h;
  cells_beyond = λ q h. b.cells_beyond q h ∙ a.cells_beyond q h;
}

-- the start of a store stays one
pub begun_on : (head : Head) (s : Shape) (bytes words cells words' cells' : List ℕ) → Begun head s bytes words cells
    → BlocksMoved s words cells words' cells' → Begun head s bytes words' cells'
unfolding head_word
begun_on head s bytes words cells words' cells' g m = record {
  spans = record {
    in_words = record { sizes = g.spans.in_words.sizes; long = omega (arith, g.spans.in_words.long, m.words_long) };
    in_cells = record { sizes = g.spans.in_cells.sizes; long = omega (arith, g.spans.in_cells.long, m.cells_long) };
  };
  total_size = m.words_below 0 (omega arith) ∙ g.total_size;
  piece_size = m.words_below 1 (omega arith) ∙ g.piece_size;
  pieces = g.pieces;
  blocks = g.blocks;
  headed = g.headed;
  told = g.told;
}

-- no piece has more blocks than a whole one
pub blocks_few : (head : Head) (s : Shape) (bytes words cells : List ℕ) → Begun head s bytes words cells → (i : ℕ)
    → blocks_of words i ≤ s.blocks
unfolding blocks_of
blocks_few head s bytes words cells g i =
    let b = bounds head.total head.size (head_valid head g.headed.ok) in
    let e : piece_blocks (head_word words 0) (head_word words 1) i ≡ piece_blocks head.total head.size i
    = ap₂ (λ (t z : ℕ). piece_blocks t z i) g.total_size g.piece_size in
    omega (arith, e, g.blocks, blocks_in_piece_le head.total head.size i b.some_size)

-- ---- the walk
pub storing_start : (head : Head) (s : Shape) (bytes rows words cells : List ℕ) → Begun head s bytes words cells
    → Storing head s bytes rows words cells (record { at = piece_place s.pieces; many = 0 }) 0
unfolding rows_held tabulate pieces_from tail first_pieces
storing_start head s bytes rows words cells g = record {
  within = omega arith;
  few = omega arith;
  most = omega arith;
  room = g.told.room;
  left =
      next_start (get_partials (head_picker head) 0 0 (tabulate s.pieces (piece_in bytes)) (drop (piece_place s.pieces) bytes))
      ∙ ap (λ (ps : List Piece). next (get_partials (head_picker head) 0 0 ps (drop (piece_place s.pieces) bytes)) (λ ds. ret ([] ++ ds)))
      (sym (tail_all (piece_in bytes) s.pieces));
  placed = λ j l. absurd (omega arith);
  plain = λ j l. absurd (omega arith);
}

module _ (head : Head) (s : Shape) (bytes rows words cells : List ℕ) (w : Walk) (i : ℕ) (p : Storing head s bytes rows words cells w i)
  where
    whole_left : Got (List DownloadingPiece)
    whole_left = get_partials (head_picker head) 0 0 (first_pieces bytes s.pieces) (drop (piece_place s.pieces) bytes)

    module _ (h : i < s.pieces) where
      step_left : get_partials (head_picker head) 0 0 (first_pieces bytes s.pieces) (drop (piece_place s.pieces) bytes)
          ≡ next (get_partials (head_picker head) i w.many (piece_in bytes i ∷ pieces_from bytes (i + 1) s.pieces) (drop w.at bytes))
          (λ ds. ret (rows_held s w.many rows words cells ++ ds))
      step_left =
          p.left
          ∙ ap (λ (ps : List Piece). next (get_partials (head_picker head) i w.many ps (drop w.at bytes))
          (λ ds. ret (rows_held s w.many rows words cells ++ ds))) (from_next bytes i s.pieces h)

      -- an Open piece has none
      pub pass_open : is_open (piece_in bytes i).state ≡ true → Passed head s bytes words cells rows words cells rows w (i + 1)
      pass_open o =
          let e : suc i ≡ i + 1 = omega arith in
          record {
            moved = moved_none s words cells;
            rows_long = refl;
            storing = record {
              within = omega arith;
              few = omega (arith, p.few);
              most = p.most;
              room = p.room;
              left =
                  step_left
                  ∙ ap (λ (g : Got (List DownloadingPiece)). next g (λ ds. ret (rows_held s w.many rows words cells ++ ds)))
                  (open_read (head_picker head) i w.many (piece_in bytes i) (pieces_from bytes (i + 1) s.pieces) o (drop w.at bytes))
                  ∙ ap (λ (m : ℕ). next (get_partials (head_picker head) m w.many (pieces_from bytes (i + 1) s.pieces)
                  (drop w.at bytes))
                  (λ ds. ret (rows_held s w.many rows words cells ++ ds))) e;
              placed = p.placed;
              plain = p.plain;
            };
          }

      module _ (o : is_open (piece_in bytes i).state ≡ false) where
        shut_left : get_partials (head_picker head) 0 0 (first_pieces bytes s.pieces) (drop (piece_place s.pieces) bytes)
            ≡ next (next (get_partial (head_picker head) i w.many (piece_in bytes i) (drop w.at bytes))
            (λ d m. next (get_partials (head_picker head) (suc i) (suc w.many) (pieces_from bytes (i + 1) s.pieces) m)
            (λ ds. ret (d ∷ ds))))
            (λ ds. ret (rows_held s w.many rows words cells ++ ds))
        shut_left =
            step_left
            ∙ ap (λ (g : Got (List DownloadingPiece)). next g (λ ds. ret (rows_held s w.many rows words cells ++ ds)))
            (shut_read (head_picker head) i w.many (piece_in bytes i) (pieces_from bytes (i + 1) s.pieces) o (drop w.at bytes))

        -- its partial is found, since all are
        pub record Next : Type 0 where
          pub partial : DownloadingPiece
          pub rest : List ℕ
          pub is : get_partial (head_picker head) i w.many (piece_in bytes i) (drop w.at bytes) ≡ got partial rest
          pub found : PartialFound (head_picker head) i w.many w.at bytes partial rest

        pub next_found : PartialsGot head s.pieces bytes → Next
        next_found g =
            next_back _ (λ ds. ret (rows_held s w.many rows words cells ++ ds)) g.partials g.rest (sym shut_left
            ∙ g.is) λ ds m e q.
            next_back (get_partial (head_picker head) i w.many (piece_in bytes i) (drop w.at bytes)) _ ds m e λ d m₂ e₂ q₂.
            record {
              partial = d;
              rest = m₂;
              is = e₂;
              found = partial_found (head_picker head) i w.many w.at (piece_in bytes i) bytes d m₂ e₂;
            }

        module _ (g : PartialsGot head s.pieces bytes) (b : Begun head s bytes words cells) (long : length rows ≡ 1536) where
          pub few_places : w.many < s.places
          few_places =
              omega (arith, (next_found g).found.few, p.few, b.spans.in_words.sizes.places, places_min s.pieces)

          module _ (many : ℕ) (em : many ≡ piece_blocks head.total head.size i) where
            many_is : blocks_in_piece (head_picker head) i ≡ many
            unfolding blocks_in_piece head_picker
            many_is = sym em

            pub blocks_room : w.at + 6 + 13 * many ≤ length bytes
            blocks_room = omega (arith, (next_found g).found.room, many_is)

            pub blocks_within : many ≤ s.blocks
            unfolding blocks_of
            blocks_within =
                let e : piece_blocks (head_word words 0) (head_word words 1) i ≡ piece_blocks head.total head.size i
                = ap₂ (λ (t z : ℕ). piece_blocks t z i) b.total_size b.piece_size in
                omega (arith, em, e, blocks_few head s bytes words cells b i)

            module _ (words' cells' rows' : List ℕ)
                (st : PartialStored s w.many i w.at many bytes words cells rows words' cells' rows') where
              abbrev row : Record
              row = record { index = i; info_idx = w.many; flags = flags_at w.at bytes }

              next_begun : Begun head s bytes words' cells'
              next_begun = begun_on head s bytes words cells words' cells' b st.blocks.moved

              many_words : blocks_of words' i ≡ many
              unfolding blocks_of
              many_words = ap₂ (λ (t z : ℕ). piece_blocks t z i) next_begun.total_size next_begun.piece_size ∙ sym em

              few : w.many < 512
              few = (next_found g).found.few

              row_here : row_at rows' w.many ≡ row
              row_here = ap (λ (l : List ℕ). row_at l w.many) st.row ∙ put_here rows w.many row few long

              row_other : (j : ℕ) → j < w.many → row_at rows' j ≡ row_at rows j
              row_other j l =
                  ap (λ (r : List ℕ). row_at r j) st.row ∙ put_other rows w.many row few long j (omega (arith, few)) (λ e. omega arith)

              same_at : (j : ℕ) → j < w.many → SameAt s.pieces s.blocks j words cells words' cells'
              unfolding head_word
              same_at j l =
                  let z : places_for s.pieces ≡ s.places = sym b.spans.in_words.sizes.places in
                  record {
                    total_size = st.blocks.moved.words_below 0 (omega arith);
                    piece_size = st.blocks.moved.words_below 1 (omega arith);
                    cells_same = λ f k hf hk. st.blocks.other_cells f j k hf (omega (arith, z, few_places)) hk (λ e. omega arith);
                    peers_same = λ k hk. st.blocks.other_peers j k hk (λ e. omega arith);
                  }

              held_same : rows_held s w.many rows' words' cells' ≡ rows_held s w.many rows words cells
              held_same =
                  rows_same s w.many rows words cells rows' words' cells'
                  (λ j l.
                  ap (partial_held words' cells' s.pieces s.blocks) (row_other j l)
                  ∙ partial_same s.pieces s.blocks j words cells words' cells' (same_at j l) (row_at rows j) (p.placed j l)
                  (blocks_few head s bytes words cells b (row_at rows j).index))

              held_here : partial_held words' cells' s.pieces s.blocks (row_at rows' w.many) ≡ (next_found g).partial
              held_here =
                  ap (partial_held words' cells' s.pieces s.blocks) row_here
                  ∙ stored_partial s w.many i w.at many bytes words cells words' cells' st.blocks many_words
                  ∙ ap (λ (m : ℕ). partial_with i (flags_at w.at bytes) (tabulate m (block_in (w.at + 6) bytes))) (sym many_is)
                  ∙ sym (next_found g).found.is

              held_more : rows_held s w.many rows words cells ++ ((next_found g).partial ∷ [])
                  ≡ rows_held s (w.many + 1) rows' words' cells'
              held_more =
                  ap₂ (λ (l : List DownloadingPiece) (d : DownloadingPiece). l ++ (d ∷ [])) (sym held_same) (sym held_here)
                  ∙ sym (rows_more s w.many rows' words' cells')

              plain_next : (j : ℕ) → j < w.many + 1 → PlainRecord s.pieces s.blocks words' cells' (row_at rows' j)
              plain_next j l = elim (ℕ_discrete j w.many) [
                | yes e ↦
                    subst (λ (k : ℕ). PlainRecord s.pieces s.blocks words' cells' (row_at rows' k)) (sym e)
                    (subst (PlainRecord s.pieces s.blocks words' cells') (sym row_here)
                    (stored_plain s w.many i w.at many bytes words cells words' cells' st.blocks many_words
                    (next_found g).found.flags (λ k m. (next_found g).found.told k (omega (arith, many_is)))))
                | no e ↦
                    let m : j < w.many = omega (arith, e) in
                    subst (PlainRecord s.pieces s.blocks words' cells') (sym (row_other j m))
                    (plain_same s.pieces s.blocks j words cells words' cells' (same_at j m) (row_at rows j) (p.placed j m)
                    (blocks_few head s bytes words cells b (row_at rows j).index) (p.plain j m))
              ]

              placed_next : (j : ℕ) → j < w.many + 1 → (row_at rows' j).info_idx ≡ j
              placed_next j l = elim (ℕ_discrete j w.many) [
                | yes e ↦ ap (λ (k : ℕ). (row_at rows' k).info_idx) e ∙ ap (λ (r : Record). r.info_idx) row_here ∙ sym e
                | no e ↦
                    let m : j < w.many = omega (arith, e) in
                    ap (λ (r : Record). r.info_idx) (row_other j m) ∙ p.placed j m
              ]

              left_next : get_partials (head_picker head) 0 0 (first_pieces bytes s.pieces) (drop (piece_place s.pieces) bytes)
                  ≡ next (get_partials (head_picker head) (i + 1) (w.many + 1) (pieces_from bytes (i + 1) s.pieces)
                  (drop (w.at + 6 + 13 * many) bytes)) (λ ds. ret (rows_held s (w.many + 1) rows' words' cells' ++ ds))
              left_next =
                  let x = next_found g in
                  let a : suc i ≡ i + 1 = omega arith in
                  let c : suc w.many ≡ w.many + 1 = omega arith in
                  let r : x.rest ≡ drop (w.at + 6 + 13 * many) bytes
                  = x.found.behind ∙ ap (λ (m : ℕ). drop (w.at + 6 + 13 * m) bytes) many_is in
                  shut_left
                  ∙ ap (λ (y : Got (List DownloadingPiece)). next y (λ ds. ret (rows_held s w.many rows words cells ++ ds)))
                  (next-got _ (λ d m. next (get_partials (head_picker head) (suc i) (suc w.many) (pieces_from bytes (i + 1) s.pieces) m)
                  (λ ds. ret (d ∷ ds))) x.partial x.rest x.is)
                  ∙ next_behind (rows_held s w.many rows words cells) x.partial
                  (get_partials (head_picker head) (suc i) (suc w.many) (pieces_from bytes (i + 1) s.pieces) x.rest)
                  ∙ (λ t. next (get_partials (head_picker head) (a t) (c t) (pieces_from bytes (i + 1) s.pieces) (r t))
                  (λ ds. ret (held_more t ++ ds)))

              -- its partial is stored
              pub pass_shut : Passed head s bytes words cells rows words' cells' rows'
                  (record { at = w.at + 6 + 13 * many; many = w.many + 1 }) (i + 1)
              pass_shut = record {
                moved = st.blocks.moved;
                rows_long = ap length st.row ∙ length_put rows w.many row;
                storing = record {
                  within = omega arith;
                  few = omega (arith, p.few);
                  most = omega (arith, few);
                  room = blocks_room;
                  left = left_next;
                  placed = placed_next;
                  plain = plain_next;
                };
              }

-- ---- turns
-- the memory after so many pieces
pub record Walked (head : Head) (s : Shape) (bytes words cells rows words' cells' rows' : List ℕ) (w : Walk) (i : ℕ) : Type 0 where
  pub moved : BlocksMoved s words cells words' cells'
  pub rows_long : length rows' ≡ length rows
  pub storing : Storing head s bytes rows' words' cells' w i

pub walked_start : (head : Head) (s : Shape) (bytes words cells rows : List ℕ) → Begun head s bytes words cells
    → Walked head s bytes words cells rows words cells rows (record { at = piece_place s.pieces; many = 0 }) 0
walked_start head s bytes words cells rows g = record {
  moved = moved_none s words cells;
  rows_long = refl;
  storing = storing_start head s bytes rows words cells g;
}

pub walked_next : (head : Head) (s : Shape) (bytes words cells rows words' cells' rows' words'' cells'' rows'' : List ℕ) (w v : Walk) (i : ℕ)
    → Walked head s bytes words cells rows words' cells' rows' w i → Passed head s bytes words' cells' rows' words'' cells'' rows'' v (i + 1)
    → Walked head s bytes words cells rows words'' cells'' rows'' v (i + 1)
walked_next head s bytes words cells rows words' cells' rows' words'' cells'' rows'' w v i a p = record {
  moved = moved_on s words cells words' cells' words'' cells'' a.moved p.moved;
  rows_long = p.rows_long ∙ a.rows_long;
  storing = p.storing;
}

pub walked_end : (head : Head) (s : Shape) (bytes words cells rows words' cells' rows' : List ℕ) (w : Walk) (i : ℕ)
    → Begun head s bytes words cells → Walked head s bytes words cells rows words' cells' rows' w i → s.pieces ≤ i
    → PartialsStored head s bytes words cells rows words' cells' rows' w
unfolding pieces_from tail get_partials next
walked_end head s bytes words cells rows words' cells' rows' w i b a h =
    let p = a.storing in
    record {
      moved = a.moved;
      rows_long = a.rows_long;
      is =
          p.left
          ∙ ap (λ (ps : List Piece). next (get_partials (head_picker head) i w.many ps (drop w.at bytes))
          (λ ds. ret (rows_held s w.many rows' words' cells' ++ ds))) (tail_end (piece_in bytes) i s.pieces h)
          ∙ ap (λ (l : List DownloadingPiece). got l (drop w.at bytes)) (append-nil (rows_held s w.many rows' words' cells'));
      few = omega (arith, p.few, p.within, p.most, b.spans.in_words.sizes.places, places_min s.pieces);
      room = p.room;
      placed = p.placed;
      plain = p.plain;
    }

-- The records of blocks, and the answers that they are. Assumes nothing.
use Rattle.std.specs.Prelude.{None, Some}
use mathlib.Core.Path.{◌≡◌, refl, sym, ap, ap₂, ◌∙◌}
use mathlib.Core.Bool.{Bool, true, false, cond}
use mathlib.Core.List.{List, [], ◌∷◌}
use mathlib.Core.Option.{none, some}
use Prim.Native.Nat.{ℕ, ◌≤◌}
use native.Mathlib.Omega.{arith}
use lib.ListN.{replicate}
use Rattle.model.specs.Lists.{bit, nth, each, concat_map}
use Rattle.model.specs.State.{Picker, Block, blocks_in_piece}
use Rattle.model.specs.ask.Questions.{reply_piece, list_piece, peers_in, block_info, of_partial, numbers, one, ask_blocks_in_piece, get_downloaders}
use Rattle.model.specs.ask.Questions.{blocks_for_piece}
use Rattle.memory_records.specs.declared.record.DownloadingPiece.{DownloadingPiece as Record}
use Rattle.memory_records.specs.Rows.{row_at, records_in}
use Rattle.ask_picker.proofs.RecordRows.{record_row}
use Rattle.memory_layout.specs.declared.shape.Shape.{Shape}
use Rattle.memory_layout.specs.Tables.{tabulate}
use Rattle.memory_layout.specs.Decode.{record_at, blocks_of, yes?, peer_from, block_held, blocks_held}
use Rattle.memory_layout.specs.Changes.{partial_in}
use Rattle.memory_layout.specs.Bounds.{ShapeOf}
use Rattle.memory_layout.proofs.Meanings.{blocks_are, blocks_of_is}
use Rattle.memory_layout.proofs.BoundsLaws.{blocks_within}
use Rattle.memory_blocks.specs.declared.info.BlockInfo.{BlockInfo}
use Rattle.memory_blocks.specs.Blocks.{block_of, BlockIs}
use Rattle.memory_fields.specs.Reading.{HeadSays}
use Rattle.memory_rows.specs.Lookup.{picker_in, FoundIn}
use Rattle.ask_picker.specs.Asked.{Asked}
use Rattle.ask_picker.proofs.AskedLaws.{asked_rows}
use Rattle.ask_piece.proofs.ReplyLaws.{one_is}
use Rattle.ask_records.specs.Records.{tells?, told_reply, peer_pair, peer_read, block_read, Lists, Written}
use Rattle.ask_records.specs.Answers.{blocks_reply}
use Rattle.ask_records.proofs.RecordLaws.{told_parts, told_reply_lem, concat_each, concat_none}

-- ---- one record
peer_read_lem : (t : Bool) (p : ℕ) → peer_read (bit t ∷ cond t p 0 ∷ []) ≡ cond t (some p) none ∷ []
unfolding peer_read peer_pair nth peer_from yes?
peer_read_lem true p = refl
peer_read_lem false p = refl

block_read_lem : (state num_peers : ℕ) (t : Bool) (p : ℕ)
    → block_read (state ∷ num_peers ∷ bit t ∷ cond t p 0 ∷ []) ≡ some state ∷ some num_peers ∷ cond t (some p) none ∷ []
unfolding block_read peer_pair nth peer_from yes?
block_read_lem state num_peers true p = refl
block_read_lem state num_peers false p = refl

module _ (x : BlockInfo) (y : Block) (b : BlockIs x y) (has peer : ℕ) (e : has ≡ bit x.has_peer)
    (ep : peer ≡ cond x.has_peer x.peer 0) where
  pub peer_row : peer_read (has ∷ peer ∷ []) ≡ y.peer ∷ []
  unfolding block_of
  peer_row =
      ap₂ (λ (h p : ℕ). peer_read (h ∷ p ∷ [])) e ep ∙ peer_read_lem x.has_peer x.peer ∙ ap (λ (z : Block). z.peer ∷ []) b.is

  pub block_row : (state num_peers : ℕ) → state ≡ x.state → num_peers ≡ x.num_peers
      → block_read (state ∷ num_peers ∷ has ∷ peer ∷ []) ≡ block_info y
  unfolding block_info block_of
  block_row state num_peers es en =
      let n : num_peers ≡ y.num_peers = en ∙ ap (λ (z : Block). z.num_peers) b.is in
      ap₂ (λ (h p : ℕ). block_read (state ∷ num_peers ∷ h ∷ p ∷ [])) e ep
      ∙ block_read_lem state num_peers x.has_peer x.peer
      ∙ (λ k. some ((es ∙ b.state) k) ∷ some (n k) ∷ (b.is k).peer ∷ [])

pub no_peer_row : peer_read (0 ∷ 0 ∷ []) ≡ none ∷ []
no_peer_row = peer_read_lem false 0

-- ---- the answers
-- blocks of a piece in another width
pub many_says : (words : List ℕ) (i n many : ℕ) → HeadSays words (λ d. reply_piece d i ask_blocks_in_piece) (one n) → many ≡ n
    → HeadSays words (λ d. reply_piece d i ask_blocks_in_piece) (one many)
many_says words i n many b e = rw e b

module _ (s : Shape) (live : ℕ) (rows words cells : List ℕ) (g : Asked s live rows words cells) (i : ℕ) where
  abbrev here : Picker
  here = picker_in live rows words cells

  pub asked_shape : ShapeOf s words
  asked_shape =
      let q = g.stands.bounds in
      record { sizes = q.spans.in_words.sizes; pieces = q.pieces; blocks = q.blocks }

  module _ (many : ℕ) (b : HeadSays words (λ d. reply_piece d i ask_blocks_in_piece) (one many)) where
    many_blocks : many ≡ blocks_of words i
    unfolding reply_piece
    many_blocks =
        one_is many (blocks_in_piece here i) (b.is (records_in live rows) cells) ∙ sym (blocks_of_is (records_in live rows) words cells i)

    pub many_few : many ≤ s.blocks
    many_few = omega (arith, many_blocks, blocks_within s (records_in live rows) words cells g.stands.bounds i)

    -- no partial stands
    pub downloaders_none : FoundIn live rows i None → (before after : List ℕ) → Lists 2 peer_read (λ j. none ∷ []) many before after
        → told_reply 2 peer_read many after ≡ list_piece here i get_downloaders
    unfolding list_piece peers_in tells?
    downloaders_none f before after l =
        told_reply_lem 2 peer_read (λ j. none ∷ []) many before after l (λ j. refl)
        ∙ ap numbers (told_parts 2 peer_read (λ (x : ℕ). none ∷ []) (λ j. j) many before after l ∙ concat_none many (λ j. j)
        ∙ ap (λ (n : ℕ). replicate n none) (many_blocks ∙ blocks_of_is (records_in live rows) words cells i)
        ∙ ap (peers_in here i) (sym (f.is s words cells (asked_rows s live rows words cells g))))

    module _ (k : ℕ) (f : FoundIn live rows i (Some k)) (p : ℕ) (e : p ≡ (row_at rows k).info_idx) where
      blocks_there : (partial_in here k).blocks ≡ tabulate many (block_held words cells s.pieces s.blocks p)
      unfolding blocks_held
      blocks_there =
          let h = f.row.0 in
          let m = g.many in
          let rs = records_in live rows in
          let n : (record_at rs k).index ≡ i = ap (λ (r : Record). r.index) (record_row live rows k f.row.0) ∙ f.row.1 in
          let q : (record_at rs k).info_idx ≡ p = ap (λ (r : Record). r.info_idx) (record_row live rows k f.row.0) ∙ sym e in
          blocks_are s rs words cells g.stands.bounds k (omega arith)
          ∙ ap₂ (λ (x y : ℕ). tabulate (blocks_of words x) (block_held words cells s.pieces s.blocks y)) n q
          ∙ ap (λ (x : ℕ). tabulate x (block_held words cells s.pieces s.blocks p)) (sym many_blocks)

      pub downloaders_some : (before after : List ℕ)
          → Lists 2 peer_read (λ j. (block_held words cells s.pieces s.blocks p j).peer ∷ []) many before after
          → told_reply 2 peer_read many after ≡ list_piece here i get_downloaders
      unfolding list_piece peers_in tells?
      downloaders_some before after l =
          told_reply_lem 2 peer_read (λ j. (block_held words cells s.pieces s.blocks p j).peer ∷ []) many before after l (λ j. refl)
          ∙ ap numbers (told_parts 2 peer_read (λ (x : Block). x.peer ∷ []) (block_held words cells s.pieces s.blocks p) many before
          after l
          ∙ concat_each (λ (x : Block). x.peer) (tabulate many (block_held words cells s.pieces s.blocks p))
          ∙ ap (each (λ (x : Block). x.peer)) (sym blocks_there)
          ∙ ap (peers_in here i) (sym (f.is s words cells (asked_rows s live rows words cells g)).1))

      pub blocks_some : (before after : List ℕ)
          → Lists 4 block_read (λ j. block_info (block_held words cells s.pieces s.blocks p j)) many before after
          → blocks_reply after (Some many) ≡ list_piece here i blocks_for_piece
      unfolding list_piece blocks_reply of_partial block_info tells?
      blocks_some before after l =
          told_reply_lem 4 block_read (λ j. block_info (block_held words cells s.pieces s.blocks p j)) many before after l (λ j. refl)
          ∙ ap numbers (told_parts 4 block_read block_info (block_held words cells s.pieces s.blocks p) many before after l
          ∙ ap (concat_map block_info) (sym blocks_there))
          ∙ ap (of_partial (λ d. numbers (concat_map block_info d.blocks)))
          (sym (f.is s words cells (asked_rows s live rows words cells g)).1)

  -- no partial stands
  pub blocks_none : FoundIn live rows i None → (out : List ℕ) → blocks_reply out None ≡ list_piece here i blocks_for_piece
  unfolding list_piece blocks_reply of_partial
  blocks_none f out =
      ap (of_partial (λ d. numbers (concat_map block_info d.blocks))) (sym (f.is s words cells (asked_rows s live rows words cells g)))

pub written_none : (w : ℕ) (out : List ℕ) → Written w 0 out out
written_none w out = record { long = refl; behind = λ k h. refl }

-- What the tests before this one give, and this one's answer. Assumes nothing.
use mathlib.Core.Path.{◌≡◌, refl, sym, ap, ap₂, ◌∙◌}
use mathlib.Core.Bool.{Bool, true, false, ◌&&◌}
use mathlib.Core.List.{List}
use Prim.Native.Nat.{ℕ, ◌^◌, ◌≤◌, ◌<◌}
use lib.Dec.{eqb, leb}
use lib.ListN.{get_or}
use borrow.Author.Tests.{leb-true, ltb-true}
use Rattle.types.specs.declared.block.BlockState.{BlockState}
use Rattle.types.specs.declared.block.BlockState.TheVariants.{Requested, Writing, Finished}
use Rattle.types.specs.Block.{block_state_number}
use Rattle.model.specs.State.{valid_geometry}
use Rattle.model.specs.change.Partials.{blocks_in_state}
use Rattle.model.specs.image.WellFormed.{head_ok}
use Rattle.model.specs.pick.Pick.{no_partial}
use Rattle.model.proofs.base.Truths.{both_true, and_left}
use Rattle.memory_records.specs.declared.record.DownloadingPiece.{DownloadingPiece as Record}
use Rattle.memory_layout.specs.declared.shape.Shape.{Shape}
use Rattle.memory_layout.specs.Offsets.{places_for, peer_at}
use Rattle.memory_layout.specs.Decode.{head_word, piece_cell, peer_word, record_at, pieces_on, blocks_on, blocks_of, partials_held, decode}
use Rattle.memory_layout.specs.Changes.{partial_in}
use Rattle.memory_layout.specs.Bounds.{ShapeOf, Spans}
use Rattle.memory_layout.specs.Good.{head_raw, piece_raw, pieces_raw, place_raw, good_head, good_pieces, good_places, good_partials}
use Rattle.memory_layout.proofs.TableLaws.{tabulate-nth}
use Rattle.check_blocks.specs.Below.{all_below}
use Rattle.check_blocks.specs.Rows.{in_state}
use Rattle.check_partials.specs.Records.{place_at, index_at, held_at, record_next, at_work, Columns, CountsHeld, Ready, Placed}
use Rattle.check_blocks.proofs.BelowLaws.{every_at, all_at}
use Rattle.check_partials.proofs.MeaningLaws.{counts_are}
use Rattle.check_partials.proofs.WholeLaws.{pass_is, pass_blocks}

module _ (rs : List Record) (words cells : List ℕ) where
  valid_of : good_head rs words cells ≡ true → valid_geometry (head_word words 0) (head_word words 1) ≡ true
  unfolding good_head head_ok
  valid_of h =
      let a = both_true (head_raw words) (head_ok (decode rs words cells)) h in
      (both_true (valid_geometry (head_word words 0) (head_word words 1)) _ a.1).0

  partials_of : good_head rs words cells ≡ true → head_word words 7 ≤ places_for (pieces_on words)
  unfolding good_head head_raw
  partials_of h =
      let a = both_true (head_raw words) (head_ok (decode rs words cells)) h in
      let b = both_true (leb (head_word words 5) 1) _ a.0 in
      let c = both_true (leb (head_word words 6) _) _ b.1 in
      leb-true (head_word words 7) (places_for (pieces_on words)) (both_true (leb (head_word words 7) (places_for (pieces_on words))) _ c.1).0

  states_of : good_pieces rs words cells ≡ true → (i : ℕ) → i < pieces_on words → piece_cell cells (pieces_on words) 1 i ≤ 6
  unfolding good_pieces pieces_raw piece_raw
  states_of h i l =
      let a = both_true (pieces_raw words cells) _ h in
      let b = every_at (piece_raw cells (pieces_on words)) (pieces_on words) a.0 i l in
      leb-true (piece_cell cells (pieces_on words) 1 i) 6 (both_true (leb (piece_cell cells (pieces_on words) 1 i) 6) _ b).0

  place_there : good_places rs words ≡ true → (k : ℕ) → k < head_word words 7 → place_at rs k < places_for (pieces_on words)
  unfolding good_places place_raw
  place_there h k l = ltb-true _ _ (and_left _ _ (every_at (place_raw rs (pieces_on words)) (head_word words 7) h k l))

  module _ (s : Shape) (sh : ShapeOf s words) (sp : Spans s words cells) (head : good_head rs words cells ≡ true)
      (pieces : good_pieces rs words cells ≡ true) where
    pub ready : Ready s words cells
    ready =
        record {
          spans = sp;
          geometry = valid_of head;
          pieces = sh.pieces;
          blocks = sh.blocks;
          states = rw sh.pieces (states_of pieces);
        }

    pub placed : good_places rs words ≡ true → (live : ℕ) → live ≡ head_word words 7 → Placed s rs live
    placed places live e =
        record {
          few = rw (e, sh.sizes.places, sh.pieces) (partials_of head);
          there = λ k l. rw (sh.sizes.places, sh.pieces) (place_there places k (rw e at l));
        }

    module _ (fit : (k : ℕ) → get_or words k 0 < 2 ^ 64) where
      fits : (n b p j : ℕ) → peer_word words n b p j < 2 ^ 64
      unfolding peer_word
      fits n b p j = fit (peer_at n b p j)

      answer : (all_below (record_next rs words cells s.pieces s.blocks) (head_word words 7)
          && eqb (at_work cells s.pieces) (head_word words 7)) ≡ good_partials rs words cells
      unfolding good_partials
      answer =
          rw (sh.pieces, sh.blocks)
          (pass_is rs words cells (pieces_on words) (blocks_on words) (fits (pieces_on words) (blocks_on words)) (states_of pieces)
          (partials_of head))

      module _ (live : ℕ) (el : live ≡ head_word words 7) (ok : Bool)
          (e : ok ≡ all_below (record_next rs words cells s.pieces s.blocks) live) where
        pub pass_fails : ok ≡ false → false ≡ good_partials rs words cells
        pass_fails f = rw (← el, ← e, f) at answer

        pub pass_counts : ok ≡ true → (w : ℕ) → w ≡ at_work cells s.pieces → eqb w live ≡ good_partials rs words cells
        pass_counts t w ew = rw ew (rw (← el, ← e, t) at answer)

        -- ---- the counts are the definition's
        module _ (t : ok ≡ true) where
          partial_at : (k : ℕ) → k < live → partial_in (decode rs words cells) k ≡ held_at rs words cells s.pieces s.blocks k
          unfolding partial_in partials_held
          partial_at k l =
              tabulate-nth (head_word words 7) (held_at rs words cells (pieces_on words) (blocks_on words)) k no_partial (rw el at l)
              ∙ ap₂ (λ (n b : ℕ). held_at rs words cells n b k) (sym sh.pieces) (sym sh.blocks)

          state_at : (q : BlockState) (k : ℕ) → k < live
              → in_state cells s.pieces s.blocks (place_at rs k) (block_state_number q) (blocks_of words (index_at rs k))
              ≡ blocks_in_state q (partial_in (decode rs words cells) k)
          state_at q k l =
              sym (counts_are words cells s.pieces s.blocks (fits s.pieces s.blocks) (record_at rs k)
              (blocks_of words (index_at rs k))
              refl
              (pass_blocks rs words cells s.pieces s.blocks (fits s.pieces s.blocks) k
              (all_at (record_next rs words cells s.pieces s.blocks) live (sym e ∙ t) k l)) q)
              ∙ ap (blocks_in_state q) (sym (partial_at k l))

          pub counts_held : (counts : List ℕ) → Columns rs words cells s.pieces s.blocks live counts
              → CountsHeld (decode rs words cells) live counts
          counts_held counts c =
              record {
                requested = λ k l. c.requested k l ∙ state_at Requested k l;
                writing = λ k l. c.writing k l ∙ state_at Writing k l;
                finished = λ k l. c.finished k l ∙ state_at Finished k l;
              }

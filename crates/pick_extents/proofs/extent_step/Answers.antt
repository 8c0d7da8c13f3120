-- `extent_step` meets its contract. Assumes nothing.
use mathlib.Core.Path.{◌≡◌, refl, sym, ◌∙◌}
use native.Mathlib.Omega.{arith}
use borrow.Author.Rules.{rules}
use Rattle.model.specs.Lists.{nth, every, range}
use Rattle.model.specs.State.{pieces_in, piece_at, blocks_per_piece}
use Rattle.memory_rows.specs.Lookup.{picker_in}
use Rattle.pick_state.specs.Requests.{request_of}
use Rattle.pick_visits.proofs.StepLaws.{stepped_lengths}
use Rattle.pick_visits.proofs.VisitLaws.{picks_sound, picks_say}
use Rattle.pick_visits.proofs.ListLaws.{picks_head, picks_pieces, picks_blocks, extents_number}
use Rattle.pick_extents.proofs.ExtentLaws.{extent_there, begins_at, ends_at, extent_spent, extent_finished, extent_open, found_more, found_here}
use Rattle.pick_extents.proofs.extent_step.Goals as goal

pub recent_extent-e-requires : goal.recent_extent-e-requires
recent_extent-e-requires c = record {
  words_span = c.requires.picks.asked.stands.bounds.spans.in_words;
  k_bound = (c.requires.le_left.1, c.requires.picks.asked.stands.bounds.recent_extents);
}

pub extent_pieces-pieces-requires : goal.extent_pieces-pieces-requires
extent_pieces-pieces-requires c = let d = picker_in c.args.live c.args.rows.now c.args.words.now c.args.cells.now in
    let ee = picks_head c.requires.picks (λ y. nth 0 y.recent_extents c.args.k) c.recent_extent-e.result c.recent_extent-e.ensures in
    let en : c.usize_to_u64.result ≡ pieces_in d = c.usize_to_u64.ensures ∙ sym (picks_pieces c.requires.picks) in
    let eb : c.usize_to_u64-2.result ≡ blocks_per_piece d = c.usize_to_u64-2.ensures ∙ sym (picks_blocks c.requires.picks) in
    let m = extents_number c.requires.picks in
    let h = extent_there d (picks_sound c.requires.picks) c.args.k (omega (arith, m, c.requires.le_left.1)) in
    rw (en, eb, ee) h

pub visit_extent-r-requires : goal.visit_extent-r-requires
visit_extent-r-requires c = let d = picker_in c.args.live c.args.rows.now c.args.words.now c.args.cells.now in
    let ee = picks_head c.requires.picks (λ y. nth 0 y.recent_extents c.args.k) c.recent_extent-e.result c.recent_extent-e.ensures in
    let en : c.usize_to_u64.result ≡ pieces_in d = c.usize_to_u64.ensures ∙ sym (picks_pieces c.requires.picks) in
    let eb : c.usize_to_u64-2.result ≡ blocks_per_piece d = c.usize_to_u64-2.ensures ∙ sym (picks_blocks c.requires.picks) in
    let ef = begins_at d c.usize_to_u64.result c.usize_to_u64-2.result c.recent_extent-e.result en eb c.u64_to_usize-first.result (c.u64_to_usize-first.ensures ∙ c.extent_pieces-pieces.ensures.0) in
    let el = ends_at d c.usize_to_u64.result c.usize_to_u64-2.result c.recent_extent-e.result en eb c.u64_to_usize-end.result (c.u64_to_usize-end.ensures ∙ c.extent_pieces-pieces.ensures.1) in
    let m = picks_pieces c.requires.picks in
    record {
      picks = c.requires.picks;
      piece_room = c.requires.piece_room;
      le_left = (c.requires.le_left.0, omega (arith, el.1));
    }

pub shape_of-out-then-r-eq0 : goal.shape_of-out-then-r-eq0
shape_of-out-then-r-eq0 c = (stepped_lengths c.visit_extent-r.ensures c.requires.piece_room).0

pub shape_of-aside-then-r-eq0 : goal.shape_of-aside-then-r-eq0
shape_of-aside-then-r-eq0 c = (stepped_lengths c.visit_extent-r.ensures c.requires.piece_room).1

pub shape_of-ignored-then-r-eq0 : goal.shape_of-ignored-then-r-eq0
shape_of-ignored-then-r-eq0 c = (stepped_lengths c.visit_extent-r.ensures c.requires.piece_room).2

pub returns-then-r-eq0 : goal.returns-then-r-eq0
returns-then-r-eq0 c = let d = picker_in c.args.live c.args.rows.now c.args.words.now c.args.cells.now in
    let r = request_of c.args.q c.args.bytes.now in
    let ee = picks_head c.requires.picks (λ y. nth 0 y.recent_extents c.args.k) c.recent_extent-e.result c.recent_extent-e.ensures in
    let en : c.usize_to_u64.result ≡ pieces_in d = c.usize_to_u64.ensures ∙ sym (picks_pieces c.requires.picks) in
    let eb : c.usize_to_u64-2.result ≡ blocks_per_piece d = c.usize_to_u64-2.ensures ∙ sym (picks_blocks c.requires.picks) in
    let ef = begins_at d c.usize_to_u64.result c.usize_to_u64-2.result c.recent_extent-e.result en eb c.u64_to_usize-first.result (c.u64_to_usize-first.ensures ∙ c.extent_pieces-pieces.ensures.0) in
    let el = ends_at d c.usize_to_u64.result c.usize_to_u64-2.result c.recent_extent-e.result en eb c.u64_to_usize-end.result (c.u64_to_usize-end.ensures ∙ c.extent_pieces-pieces.ensures.1) in record {
      extents_beside = extent_spent r c.args.k c.recent_extent-e.result c.u64_to_usize-first.result c.u64_to_usize-end.result ee ef el.0 c.visit_extent-r.ensures c.if-r-eq0.true;
      found_below = found_more _ c.requires.le_left.2 refl refl;
    }

pub all_flushed-requires : goal.all_flushed-requires
all_flushed-requires c = let d = picker_in c.args.live c.args.rows.now c.args.words.now c.args.cells.now in
    let ee = picks_head c.requires.picks (λ y. nth 0 y.recent_extents c.args.k) c.recent_extent-e.result c.recent_extent-e.ensures in
    let en : c.usize_to_u64.result ≡ pieces_in d = c.usize_to_u64.ensures ∙ sym (picks_pieces c.requires.picks) in
    let eb : c.usize_to_u64-2.result ≡ blocks_per_piece d = c.usize_to_u64-2.ensures ∙ sym (picks_blocks c.requires.picks) in
    let ef = begins_at d c.usize_to_u64.result c.usize_to_u64-2.result c.recent_extent-e.result en eb c.u64_to_usize-first.result (c.u64_to_usize-first.ensures ∙ c.extent_pieces-pieces.ensures.0) in
    let el = ends_at d c.usize_to_u64.result c.usize_to_u64-2.result c.recent_extent-e.result en eb c.u64_to_usize-end.result (c.u64_to_usize-end.ensures ∙ c.extent_pieces-pieces.ensures.1) in
    let m = picks_pieces c.requires.picks in
    record {
      cells_span = c.requires.picks.asked.stands.bounds.spans.in_cells;
      end_le_pieces = omega (arith, el.1);
    }

pub shape_of-out-then-all_flushed : goal.shape_of-out-then-all_flushed
shape_of-out-then-all_flushed c = (stepped_lengths c.visit_extent-r.ensures c.requires.piece_room).0

pub shape_of-aside-then-all_flushed : goal.shape_of-aside-then-all_flushed
shape_of-aside-then-all_flushed c = (stepped_lengths c.visit_extent-r.ensures c.requires.piece_room).1

pub shape_of-ignored-then-all_flushed : goal.shape_of-ignored-then-all_flushed
shape_of-ignored-then-all_flushed c = (stepped_lengths c.visit_extent-r.ensures c.requires.piece_room).2

pub returns-then-all_flushed : goal.returns-then-all_flushed
returns-then-all_flushed c = let d = picker_in c.args.live c.args.rows.now c.args.words.now c.args.cells.now in
    let r = request_of c.args.q c.args.bytes.now in
    let ee = picks_head c.requires.picks (λ y. nth 0 y.recent_extents c.args.k) c.recent_extent-e.result c.recent_extent-e.ensures in
    let en : c.usize_to_u64.result ≡ pieces_in d = c.usize_to_u64.ensures ∙ sym (picks_pieces c.requires.picks) in
    let eb : c.usize_to_u64-2.result ≡ blocks_per_piece d = c.usize_to_u64-2.ensures ∙ sym (picks_blocks c.requires.picks) in
    let ef = begins_at d c.usize_to_u64.result c.usize_to_u64-2.result c.recent_extent-e.result en eb c.u64_to_usize-first.result (c.u64_to_usize-first.ensures ∙ c.extent_pieces-pieces.ensures.0) in
    let el = ends_at d c.usize_to_u64.result c.usize_to_u64-2.result c.recent_extent-e.result en eb c.u64_to_usize-end.result (c.u64_to_usize-end.ensures ∙ c.extent_pieces-pieces.ensures.1) in
    let f = picks_say c.requires.picks (λ y. every (λ i. (piece_at y i).flushed) (range c.u64_to_usize-first.result c.u64_to_usize-end.result)) c.all_flushed.result c.all_flushed.ensures in record {
      extents_beside = extent_finished r c.args.k c.recent_extent-e.result c.u64_to_usize-first.result c.u64_to_usize-end.result ee ef el.0 c.visit_extent-r.ensures c.if-r-eq0.false
          c.all_flushed.result f c.if-all_flushed.true;
      found_below = found_here c.args.k _ refl;
    }

pub shape_of-out : goal.shape_of-out
shape_of-out c = (stepped_lengths c.visit_extent-r.ensures c.requires.piece_room).0

pub shape_of-aside : goal.shape_of-aside
shape_of-aside c = (stepped_lengths c.visit_extent-r.ensures c.requires.piece_room).1

pub shape_of-ignored : goal.shape_of-ignored
shape_of-ignored c = (stepped_lengths c.visit_extent-r.ensures c.requires.piece_room).2

pub returns : goal.returns
returns c = let d = picker_in c.args.live c.args.rows.now c.args.words.now c.args.cells.now in
    let r = request_of c.args.q c.args.bytes.now in
    let ee = picks_head c.requires.picks (λ y. nth 0 y.recent_extents c.args.k) c.recent_extent-e.result c.recent_extent-e.ensures in
    let en : c.usize_to_u64.result ≡ pieces_in d = c.usize_to_u64.ensures ∙ sym (picks_pieces c.requires.picks) in
    let eb : c.usize_to_u64-2.result ≡ blocks_per_piece d = c.usize_to_u64-2.ensures ∙ sym (picks_blocks c.requires.picks) in
    let ef = begins_at d c.usize_to_u64.result c.usize_to_u64-2.result c.recent_extent-e.result en eb c.u64_to_usize-first.result (c.u64_to_usize-first.ensures ∙ c.extent_pieces-pieces.ensures.0) in
    let el = ends_at d c.usize_to_u64.result c.usize_to_u64-2.result c.recent_extent-e.result en eb c.u64_to_usize-end.result (c.u64_to_usize-end.ensures ∙ c.extent_pieces-pieces.ensures.1) in
    let f = picks_say c.requires.picks (λ y. every (λ i. (piece_at y i).flushed) (range c.u64_to_usize-first.result c.u64_to_usize-end.result)) c.all_flushed.result c.all_flushed.ensures in record {
      extents_beside = extent_open r c.args.k c.recent_extent-e.result c.u64_to_usize-first.result c.u64_to_usize-end.result ee ef el.0 c.visit_extent-r.ensures c.if-r-eq0.false
          c.all_flushed.result f c.if-all_flushed.false;
      found_below = found_more _ c.requires.le_left.2 refl refl;
    }

-- `add_new_piece` meets its contract. Assumes nothing.
use Rattle.pick_new.proofs.NewLaws.{new_few, new_span}
use Rattle.pick_new.proofs.InLaws.{in_words, words_say, some_blocks, few_blocks, payload_few}
use Rattle.pick_state.proofs.LeastLaws.{min_least}
use Rattle.pick_free.proofs.FreeLaws.{expanded_around}
use Rattle.pick_laws.proofs.SpanLaws.{least_left}
use Rattle.model.specs.State.{payload_blocks_in_piece}
use native.Mathlib.Omega.{arith}
use Prim.Native.Nat.{◌+◌}
use mathlib.Core.List.{[]}
use mathlib.Core.Path.{sym, ◌∙◌}
use borrow.Author.Rules.{rules}
use Rattle.pick_new.proofs.pieces.add_new_piece.Goals as goal

pub take_blocks-requires : goal.take_blocks-requires
take_blocks-requires c = let e = words_say (λ d. payload_blocks_in_piece d c.args.i) c.payload_blocks-n.ensures c.requires.new_room.picker (in_words c.requires.new_room.stands) in
    let l = payload_few (in_words c.requires.new_room.stands) c.args.i in
    let f = few_blocks (in_words c.requires.new_room.stands) in
    let k = c.min-many.ensures ∙ min_least _ _ in
    let m = least_left c.payload_blocks-n.result c.args.t.left in
    record {
      n_in_bounds = (omega arith, omega arith);
      i_bound = (omega arith, omega arith);
    }

pub returns-then-contiguous_is_zero : goal.returns-then-contiguous_is_zero
returns-then-contiguous_is_zero c loops = let e = words_say (λ d. payload_blocks_in_piece d c.args.i) c.payload_blocks-n.ensures c.requires.new_room.picker (in_words c.requires.new_room.stands) in
    let l = payload_few (in_words c.requires.new_room.stands) c.args.i in
    let k = c.min-many.ensures ∙ min_least _ _ in
    let m = least_left c.payload_blocks-n.result c.args.t.left in
    new_few c.args.s c.args.words.now c.args.cells.now c.args.q c.args.bytes.now c.args.i c.args.t c.args.out.now c.args.ignored.now c.payload_blocks-n.result c.min-many.result
    (c.args.t.asked + c.args.s.blocks) (sym c.contiguous_is_zero.ensures ∙ c.if-contiguous_is_zero.true)
    c.payload_blocks-n.ensures (c.min-many.ensures ∙ min_least _ _) (omega arith) c.take_blocks.ensures loops

pub expand_piece-span-requires : goal.expand_piece-span-requires
expand_piece-span-requires c = record {
  picks_cells = record { span = c.requires.new_room.stands.bounds.spans.in_cells; bits = c.requires.new_room.bits; some = some_blocks (in_words c.requires.new_room.stands) };
  i_lt_pieces = (c.requires.i_lt_pieces, omega arith);
}

pub take_span-requires : goal.take_span-requires
take_span-requires c = let y = expanded_around c.args.s c.args.cells.now c.args.q c.args.bytes.now c.args.i c.args.t c.expand_piece-span.result c.expand_piece-span.ensures c.requires.new_room.stands.records c.args.words.now
    c.requires.new_room.stands.bounds c.requires.i_lt_pieces in
    let f = y.few in
    let u = y.from in
    let v = y.to in record {
      run_room = record {
        picker = c.requires.new_room.picker;
        stands = in_words c.requires.new_room.stands;
        marks = c.requires.new_room.marks;
        room = omega arith;
        given = omega arith;
      };
      first_le_end = (omega arith, y.inside);
    }

pub shape_of-out : goal.shape_of-out
shape_of-out c = (c.take_span.ensures []).kept.long

pub shape_of-ignored : goal.shape_of-ignored
shape_of-ignored c = (c.take_span.ensures []).marks

pub returns : goal.returns
returns c loops = let y = expanded_around c.args.s c.args.cells.now c.args.q c.args.bytes.now c.args.i c.args.t c.expand_piece-span.result c.expand_piece-span.ensures c.requires.new_room.stands.records c.args.words.now
    c.requires.new_room.stands.bounds c.requires.i_lt_pieces in
    let f = y.few in
    new_span c.args.s c.args.words.now c.args.cells.now c.args.q c.args.bytes.now c.args.i c.args.t c.args.out.now c.args.ignored.now c.expand_piece-span.result
    (c.args.t.asked + c.args.s.blocks) (sym c.contiguous_is_zero.ensures ∙ c.if-contiguous_is_zero.false) c.expand_piece-span.ensures (omega arith) c.take_span.ensures loops

-- `pass_piece` meets its contract. Assumes nothing.
use mathlib.Core.Path.{ap, ◌∙◌}
use Prim.Native.Nat.{◌+◌, ◌*◌, ◌<◌}
use native.Mathlib.Omega.{arith}
use Rattle.model.specs.Bep3.{num_pieces, piece_blocks}
use Rattle.image_partials.specs.Partials.{Stepped}
use Rattle.image_partials.proofs.WalkLaws.{piece_field, piece_state, piece_open, piece_shut, piece_priority, blocks_some}
use Rattle.image_partials.proofs.WalkLaws.{blocks_most, pass_open, pass_next, pass_fails, whole_at}
use Rattle.image_pieces.proofs.PassedOn.{passed_on}
use Rattle.image_partials.proofs.partials.pass_piece.Goals as goal

pub returns-then-state-eq4 : goal.returns-then-state-eq4
unfolding Stepped
returns-then-state-eq4 c = let es = piece_field c.args.bytes.now c.args.i 2 1 (24 + 10 * c.args.i + 3) _ (omega arith) (omega arith) c.read1-state.ensures in
    pass_open c.args.head c.args.i c.args.w c.args.bytes.now c.requires.at_in_bounds.1
    (piece_open c.args.bytes.now c.args.i _ es (c.requires.headed.1.state c.args.i c.requires.n_value.1) c.if-state-eq4.true) c.requires.at_in_bounds.0

pub read_whole-requires : goal.read_whole-requires
read_whole-requires c = let es = piece_field c.args.bytes.now c.args.i 2 1 (24 + 10 * c.args.i + 3) _ (omega arith) (omega arith) c.read1-state.ensures in
    let em = (c.u64_to_usize-many.ensures ∙ c.blocks_at.ensures ∙ ap (piece_blocks c.args.head.total c.args.head.size)
    c.usize_to_u64-number.ensures) in
    let there : c.args.i < num_pieces c.args.head.total c.args.head.size = omega arith in record {
      le_many = (
        omega (arith, em, blocks_some c.args.head c.args.bytes.now c.requires.headed.0 c.args.i there),
        omega (arith, em, blocks_most c.args.head c.args.bytes.now c.requires.headed.0 c.args.i there),
        omega (arith, es, c.requires.headed.1.state c.args.i c.requires.n_value.1),
        omega (arith, c.read1-priority.ensures.small),
      );
      at_in_bounds = c.requires.at_in_bounds.0;
    }

pub returns : goal.returns
unfolding Stepped
returns c = let es = piece_field c.args.bytes.now c.args.i 2 1 (24 + 10 * c.args.i + 3) _ (omega arith) (omega arith) c.read1-state.ensures in
    let ep = piece_field c.args.bytes.now c.args.i 3 1 (24 + 10 * c.args.i + 4) _ (omega arith) (omega arith) c.read1-priority.ensures in
    let em = (c.u64_to_usize-many.ensures ∙ c.blocks_at.ensures ∙ ap (piece_blocks c.args.head.total c.args.head.size)
    c.usize_to_u64-number.ensures) in
    pass_next c.args.head c.args.i c.args.w c.args.bytes.now c.requires.at_in_bounds.1
    (piece_shut c.args.bytes.now c.args.i _ es (c.requires.headed.1.state c.args.i c.requires.n_value.1) c.if-state-eq4.false) _
    (whole_at c.args.head c.args.i c.args.w.at c.args.w.many _ _ _ _ c.args.bytes.now _ _ c.read_whole.ensures c.usize_to_u64-number.ensures em
    (piece_state c.args.bytes.now c.args.i _ es) (piece_priority c.args.bytes.now c.args.i _ ep) c.in_ok-at.was)

pub returns-in_err-at : goal.returns-in_err-at
unfolding Stepped
returns-in_err-at c = let es = piece_field c.args.bytes.now c.args.i 2 1 (24 + 10 * c.args.i + 3) _ (omega arith) (omega arith) c.read1-state.ensures in
    let ep = piece_field c.args.bytes.now c.args.i 3 1 (24 + 10 * c.args.i + 4) _ (omega arith) (omega arith) c.read1-priority.ensures in
    let em = (c.u64_to_usize-many.ensures ∙ c.blocks_at.ensures ∙ ap (piece_blocks c.args.head.total c.args.head.size)
    c.usize_to_u64-number.ensures) in
    rw (passed_on c.from_residual.result c.in_err-at.field-0.0 c.from_residual.ensures.1)
    (pass_fails c.args.head c.args.i c.args.w c.args.bytes.now c.requires.at_in_bounds.1
    (piece_shut c.args.bytes.now c.args.i _ es (c.requires.headed.1.state c.args.i c.requires.n_value.1) c.if-state-eq4.false) _
    (whole_at c.args.head c.args.i c.args.w.at c.args.w.many _ _ _ _ c.args.bytes.now _ _ c.read_whole.ensures c.usize_to_u64-number.ensures em
    (piece_state c.args.bytes.now c.args.i _ es) (piece_priority c.args.bytes.now c.args.i _ ep) c.in_err-at.was))

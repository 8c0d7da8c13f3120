-- `pass_piece` meets its contract. Assumes nothing.
use mathlib.Core.Path.{ap, ◌∙◌}
use Prim.Native.Nat.{◌+◌, ◌*◌, ◌<◌}
use native.Mathlib.Omega.{arith}
use Rattle.model.specs.Bep3.{num_pieces, piece_blocks}
use Rattle.image_partials.proofs.WalkLaws.{piece_field, piece_open, piece_shut, blocks_some}
use Rattle.image_store.proofs.StoreLaws.{pass_open, few_places, blocks_room, blocks_within, pass_shut}
use borrow.Author.Rules.{rules}
use Rattle.image_store.proofs.partials.pass_piece.Goals as goal

pub returns-then-state-eq4 : goal.returns-then-state-eq4
returns-then-state-eq4 c = let es = piece_field c.args.bytes.now c.args.i 2 1 (24 + 10 * c.args.i + 3) _ (omega arith) (omega arith) c.read1-state.ensures in
    pass_open c.args.head c.args.s c.args.bytes.now _ _ _ c.args.w c.args.i c.requires.storing.0 c.requires.storing.1
    (piece_open c.args.bytes.now c.args.i _ es (c.requires.begun.0.told.told c.args.i c.requires.storing.1).state c.if-state-eq4.true)

pub store_partial-requires : goal.store_partial-requires
store_partial-requires c = let es = piece_field c.args.bytes.now c.args.i 2 1 (24 + 10 * c.args.i + 3) _ (omega arith) (omega arith) c.read1-state.ensures in
    let o = piece_shut c.args.bytes.now c.args.i _ es (c.requires.begun.0.told.told c.args.i c.requires.storing.1).state c.if-state-eq4.false in
    let em = c.u64_to_usize-many.ensures ∙ c.blocks_at.ensures ∙ ap (piece_blocks c.args.head.total c.args.head.size)
    c.usize_to_u64.ensures in
    let there : c.args.i < num_pieces c.args.head.total c.args.head.size = omega (arith, c.requires.begun.0.pieces, c.requires.storing.1) in record {
      spans = c.requires.begun.0.spans;
      i_lt_pieces = (
        c.requires.storing.1,
        few_places c.args.head c.args.s c.args.bytes.now _ _ _ c.args.w c.args.i c.requires.storing.0 c.requires.storing.1 o c.requires.begun.1 c.requires.begun.0 c.requires.rows_len,
        blocks_within c.args.head c.args.s c.args.bytes.now _ _ _ c.args.w c.args.i c.requires.storing.0 c.requires.storing.1 o c.requires.begun.1 c.requires.begun.0 c.requires.rows_len _ em,
        omega (arith, em, blocks_some c.args.head c.args.bytes.now c.requires.begun.0.headed c.args.i there),
      );
      many_in_bounds = (
        blocks_room c.args.head c.args.s c.args.bytes.now _ _ _ c.args.w c.args.i c.requires.storing.0 c.requires.storing.1 o c.requires.begun.1 c.requires.begun.0 c.requires.rows_len _ em,
        c.requires.rows_len,
      );
    }

pub overflow_add-result : goal.overflow_add-result
overflow_add-result c = let es = piece_field c.args.bytes.now c.args.i 2 1 (24 + 10 * c.args.i + 3) _ (omega arith) (omega arith) c.read1-state.ensures in
    let o = piece_shut c.args.bytes.now c.args.i _ es (c.requires.begun.0.told.told c.args.i c.requires.storing.1).state c.if-state-eq4.false in
    let em = c.u64_to_usize-many.ensures ∙ c.blocks_at.ensures ∙ ap (piece_blocks c.args.head.total c.args.head.size)
    c.usize_to_u64.ensures in
    omega (
      arith,
      blocks_room c.args.head c.args.s c.args.bytes.now _ _ _ c.args.w c.args.i c.requires.storing.0 c.requires.storing.1 o c.requires.begun.1 c.requires.begun.0 c.requires.rows_len _ em,
    )

pub overflow_mul-result : goal.overflow_mul-result
overflow_mul-result c = let es = piece_field c.args.bytes.now c.args.i 2 1 (24 + 10 * c.args.i + 3) _ (omega arith) (omega arith) c.read1-state.ensures in
    let o = piece_shut c.args.bytes.now c.args.i _ es (c.requires.begun.0.told.told c.args.i c.requires.storing.1).state c.if-state-eq4.false in
    let em = c.u64_to_usize-many.ensures ∙ c.blocks_at.ensures ∙ ap (piece_blocks c.args.head.total c.args.head.size)
    c.usize_to_u64.ensures in
    omega (
      arith,
      blocks_room c.args.head c.args.s c.args.bytes.now _ _ _ c.args.w c.args.i c.requires.storing.0 c.requires.storing.1 o c.requires.begun.1 c.requires.begun.0 c.requires.rows_len _ em,
    )

pub overflow_add-result-2 : goal.overflow_add-result-2
overflow_add-result-2 c = let es = piece_field c.args.bytes.now c.args.i 2 1 (24 + 10 * c.args.i + 3) _ (omega arith) (omega arith) c.read1-state.ensures in
    let o = piece_shut c.args.bytes.now c.args.i _ es (c.requires.begun.0.told.told c.args.i c.requires.storing.1).state c.if-state-eq4.false in
    let em = c.u64_to_usize-many.ensures ∙ c.blocks_at.ensures ∙ ap (piece_blocks c.args.head.total c.args.head.size)
    c.usize_to_u64.ensures in
    omega (
      arith,
      blocks_room c.args.head c.args.s c.args.bytes.now _ _ _ c.args.w c.args.i c.requires.storing.0 c.requires.storing.1 o c.requires.begun.1 c.requires.begun.0 c.requires.rows_len _ em,
    )

pub returns : goal.returns
returns c = let es = piece_field c.args.bytes.now c.args.i 2 1 (24 + 10 * c.args.i + 3) _ (omega arith) (omega arith) c.read1-state.ensures in
    let o = piece_shut c.args.bytes.now c.args.i _ es (c.requires.begun.0.told.told c.args.i c.requires.storing.1).state c.if-state-eq4.false in
    let em = c.u64_to_usize-many.ensures ∙ c.blocks_at.ensures ∙ ap (piece_blocks c.args.head.total c.args.head.size)
    c.usize_to_u64.ensures in
    pass_shut c.args.head c.args.s c.args.bytes.now _ _ _ c.args.w c.args.i c.requires.storing.0 c.requires.storing.1 o c.requires.begun.1 c.requires.begun.0 c.requires.rows_len _ em _ _ _
    c.store_partial.ensures

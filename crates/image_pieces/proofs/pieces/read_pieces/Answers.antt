-- `read_pieces` meets its contract. The loop's invariant: what is left decides, and each piece so far has its rank.
use mathlib.Core.Path.{refl, sym, ap, ◌∙◌}
use Prim.Native.Nat.{◌+◌, ◌*◌}
use native.Mathlib.Omega.{arith}
use Rattle.model.specs.Bep3.{piece_length}
use Rattle.model.specs.State.{piece_size_at}
use Rattle.image_pieces.specs.Heads.{head_picker}
use Rattle.image_pieces.specs.Pieces.{PiecesRead}
use Rattle.image_pieces.proofs.HeadLaws.{head_seeds, head_pieces}
use Rattle.image_pieces.proofs.PieceLaws.{piece_got, piece_bad}
use Rattle.image_pieces.proofs.PassLaws.{reading_on, reading_next, reading_fault, reading_end}
use Rattle.image_pieces.proofs.pieces.read_pieces.Goals as goal

pub loop-i-init : goal.loop-i-init
loop-i-init c = reading_on _ _ _ _ _ _ c.pass_pieces-i.ensures

pub overflow_mul-at : goal.overflow_mul-at
overflow_mul-at c = omega (arith, head_pieces _ c.requires.headed.ok)

pub overflow_add-at : goal.overflow_add-at
overflow_add-at c = omega (arith, head_pieces _ c.requires.headed.ok)

pub read_piece-requires : goal.read_piece-requires
read_piece-requires c = head_seeds _ c.requires.headed.ok

pub returns-in_default : goal.returns-in_default
unfolding head_picker piece_size_at PiecesRead
returns-in_default c = let size = sym (c.piece_length-long.ensures ∙ ap (piece_length c.args.head.total c.args.head.size) c.usize_to_u64.ensures) in
    let e = sym c.in_default.is ∙ c.read_piece.ensures (head_picker c.args.head) c.loop-i.i refl size in
    record {
      pieces_read = reading_fault _ _ _ _ _ _ c.loop-i.invariant (omega arith) (piece_bad (head_picker c.args.head) c.loop-i.i (24 + 10 * c.loop-i.i) c.args.bytes.now e);
      ranks_len_unchanged = c.loop-i.invariant.wide ∙ c.pass_pieces-i.ensures.wide;
    }

pub rank_of-requires : goal.rank_of-requires
unfolding head_picker piece_size_at
rank_of-requires c = let size = sym (c.piece_length-long.ensures ∙ ap (piece_length c.args.head.total c.args.head.size) c.usize_to_u64.ensures) in
    let e = sym c.in-Some.is ∙ c.read_piece.ensures (head_picker c.args.head) c.loop-i.i refl size in
    let g = piece_got (head_picker c.args.head) c.loop-i.i (24 + 10 * c.loop-i.i) c.args.bytes.now _ e in
    (g.count_most, g.priority_most)

pub loop-i-preserved : goal.loop-i-preserved
unfolding head_picker piece_size_at
loop-i-preserved c = let size = sym (c.piece_length-long.ensures ∙ ap (piece_length c.args.head.total c.args.head.size) c.usize_to_u64.ensures) in
    let e = sym c.in-Some.is ∙ c.read_piece.ensures (head_picker c.args.head) c.loop-i.i refl size in
    reading_next _ _ _ _ _ _ c.loop-i.invariant (omega arith) _ (piece_got (head_picker c.args.head) c.loop-i.i (24 + 10 * c.loop-i.i) c.args.bytes.now _ e) _
    c.rank_of.ensures

pub overflow_mul-result : goal.overflow_mul-result
overflow_mul-result c = omega (arith, head_pieces _ c.requires.headed.ok)

pub overflow_add-result : goal.overflow_add-result
overflow_add-result c = omega (arith, head_pieces _ c.requires.headed.ok)

pub returns : goal.returns
unfolding PiecesRead
returns c = record {
  pieces_read = (refl, reading_end _ _ _ _ _ _ c.loop-i.invariant (omega arith));
  ranks_len_unchanged = c.loop-i.invariant.wide ∙ c.pass_pieces-i.ensures.wide;
}

-- `read_front` meets its contract: head, pieces, then the rest. Assumes nothing.
use mathlib.Core.Path.{sym, ◌∙◌}
use native.Mathlib.Omega.{arith}
use Rattle.image_pieces.proofs.HeadLaws.{head_got, head_bad, head_pieces}
use Rattle.image_judge.proofs.FrontLaws.{head_fails, pieces_fail, pieces_stand, front_read}
use Rattle.image_pieces.proofs.PassedOn.{passed_on}
use Rattle.image_judge.proofs.front.read_front.Goals as goal

pub returns-in_default : goal.returns-in_default
returns-in_default c = head_fails c.args.bytes.now (head_bad c.args.bytes.now (sym c.in_default.is ∙ c.read_head.ensures))

pub read_pieces-requires : goal.read_pieces-requires
read_pieces-requires c = let g = head_got c.args.bytes.now _ (sym c.in-Some.is ∙ c.read_head.ensures) in record {
  headed = g.headed;
  n_value = (
    c.u64_to_usize-n.ensures ∙ c.num_pieces.ensures,
    omega
        (arith, head_pieces _ g.headed.ok, c.u64_to_usize-n.ensures ∙ c.num_pieces.ensures),
  );
}

pub read_body-requires : goal.read_body-requires
read_body-requires c = let g = head_got c.args.bytes.now _ (sym c.in-Some.is ∙ c.read_head.ensures) in record {
  headed = (
    g.headed,
    pieces_stand c.args.bytes.now _ g _ (c.u64_to_usize-n.ensures ∙ c.num_pieces.ensures) _ _ c.read_pieces.ensures.pieces_read _
        c.in_ok-read_pieces.was,
  );
  n_value = (
    c.u64_to_usize-n.ensures ∙ c.num_pieces.ensures,
    omega
        (arith, head_pieces _ g.headed.ok, c.u64_to_usize-n.ensures ∙ c.num_pieces.ensures, c.read_pieces.ensures.ranks_len_unchanged),
  );
}

pub returns : goal.returns
returns c = let g = head_got c.args.bytes.now _ (sym c.in-Some.is ∙ c.read_head.ensures) in
    front_read c.args.bytes.now _ g _ (c.u64_to_usize-n.ensures ∙ c.num_pieces.ensures) _ _ c.read_pieces.ensures.pieces_read _
    c.in_ok-read_pieces.was _ c.read_body.ensures

pub returns-in_err-read_pieces : goal.returns-in_err-read_pieces
returns-in_err-read_pieces c = let g = head_got c.args.bytes.now _ (sym c.in-Some.is ∙ c.read_head.ensures) in
    rw (passed_on c.from_residual.result c.in_err-read_pieces.field-0.0 c.from_residual.ensures.1)
    (pieces_fail c.args.bytes.now _ g _ (c.u64_to_usize-n.ensures ∙ c.num_pieces.ensures) _ _ c.read_pieces.ensures.pieces_read _
    c.in_err-read_pieces.was)

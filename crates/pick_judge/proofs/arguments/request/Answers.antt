-- `request` meets its contract. Assumes nothing.
use mathlib.Core.Path.{ap, ◌∙◌}
use mir.Syntax.{w32}
use mir.Val.{SFits}
use mir.ValLaws.{to_z-of_z}
use borrow.Author.Rules.{rules}
use Rattle.types.specs.Piece.{number_of}
use Rattle.pick_judge.proofs.JudgeLaws.{request_made}
use Rattle.pick_judge.proofs.arguments.request.Goals as goal

pub returns : goal.returns
returns c = let n : SFits w32 c.args.a.num_blocks = search rules in
    let r : SFits w32 c.args.a.prefer_contiguous_blocks = search rules in
    let p : SFits w32 c.args.a.num_peers = search rules in
    request_made c.args.a _ _ _ _ (c.i32_to_usize.ensures ∙ ap number_of (to_z-of_z w32 _ n)) (c.i32_to_usize-2.ensures ∙ ap number_of (to_z-of_z w32 _ r))
    (c.i32_to_usize-3.ensures ∙ ap number_of (to_z-of_z w32 _ p)) c.lent_peer.ensures

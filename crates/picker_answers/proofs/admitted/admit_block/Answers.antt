-- `admit_block` meets its contract. Assumes nothing.
use mathlib.Core.Option.{none}
use native.Mathlib.Omega.{arith}
use Rattle.model.specs.Calls.{refuse_bad_block}
use Rattle.picker_calls.proofs.CoreLaws.{stood_at}
use Rattle.picker_answers.proofs.AdmittedLaws.{refused_for_memory, refused_by_rule, admitted_by_rule, shaped, block_rule, piece_past}
use Rattle.picker_answers.proofs.AdmittedLaws.{block_past, block_there, block_fits}
use borrow.Author.Rules.{rules}
use Rattle.picker_answers.proofs.admitted.admit_block.Goals as goal

pub returns-then-shape-i : goal.returns-then-shape-i
unfolding refuse_bad_block
returns-then-shape-i c = let k = c.admit in
    let at = c.in_ok-shape.was in
    let a = c.args in
    let t = (stood_at _ _ _ _ _ k.result k.ensures _ at).stands in
    refused_by_rule (λ d. refuse_bad_block d a.i a.j none) (block_rule a.i a.j) _ _ _ _ _ _ k.result k.ensures _ at _
    (piece_past _ _ _ _ t a.i _ c.if-shape-i.true)

pub blocks_in_piece-requires : goal.blocks_in_piece-requires
blocks_in_piece-requires c = let k = c.admit in
    let t = stood_at _ _ _ _ _ k.result k.ensures _ c.in_ok-shape.was in
    record {
      words_span = t.stands.bounds.spans.in_words;
      shape_of = shaped _ _ _ _ _ _ _ t;
      i_lt_pieces = c.if-shape-i.false;
    }

pub returns-then-u64_to_usize-j : goal.returns-then-u64_to_usize-j
returns-then-u64_to_usize-j c = let k = c.admit in
    let at = c.in_ok-shape.was in
    let a = c.args in
    let t = (stood_at _ _ _ _ _ k.result k.ensures _ at).stands in
    refused_by_rule (λ d. refuse_bad_block d a.i a.j none) (block_rule a.i a.j) _ _ _ _ _ _ k.result k.ensures _ at _
    (block_past _ _ _ _ t a.i a.j _ c.if-shape-i.false c.blocks_in_piece.ensures
    (omega (arith, c.u64_to_usize.ensures, c.if-u64_to_usize-j.true)))

pub returns-in_err-shape : goal.returns-in_err-shape
returns-in_err-shape c = let k = c.admit in
    let a = c.args in
    refused_for_memory (λ d. refuse_bad_block d a.i a.j none) (block_rule a.i a.j) _ _ _ _ _ _ k.result k.ensures _
    c.in_err-shape.was _ c.from_residual.ensures.1

pub returns : goal.returns
returns c = let k = c.admit in
    let at = c.in_ok-shape.was in
    let a = c.args in
    let t = (stood_at _ _ _ _ _ k.result k.ensures _ at).stands in
    let u = c.u64_to_usize in
    let n = c.blocks_in_piece in
    let l = c.if-u64_to_usize-j.false in
    let h = c.if-shape-i.false in
    admitted_by_rule (λ d. refuse_bad_block d a.i a.j none) (block_rule a.i a.j) _ _ _ _ _ _ k.result k.ensures _ at
    (block_there _ _ _ _ t a.i a.j _ h n.ensures (omega (arith, u.ensures, l)))
    (block_fits _ _ _ _ t a.i a.j _ h n.ensures (omega (arith, u.ensures, l))) _ c.live_records.ensures

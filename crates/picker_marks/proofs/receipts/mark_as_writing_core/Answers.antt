-- `mark_as_writing_core` meets its contract. Assumes nothing.
use mathlib.Core.Path.{refl, sym, ap, ◌∙◌}
use mathlib.Core.Option.{Option, none}
use Prim.Native.Nat.{ℕ}
use Rattle.types.specs.Peer.{named_peer}
use Rattle.model.specs.list.Order.{drawing}
use Rattle.model.specs.change.Changes.{mark_as_writing}
use Rattle.model.specs.Calls.{do_mark_as_writing, changing, act}
use Rattle.memory_rows.specs.Lookup.{picker_in}
use Rattle.picker_calls.proofs.ListlessLaws.{listless}
use Rattle.picker_calls.proofs.CoreLaws.{barred}
use Rattle.picker_calls.specs.Outcomes.{judged}
use Rattle.change_marks.proofs.AcceptedLaws.{writing_accepted}
use Rattle.picker_blocks.proofs.BlockCores.{lent_named, stood_rows, block_denied, block_said}
use Rattle.picker_blocks.proofs.Values.{peer_wide}
use borrow.Author.Rules.{rules}
use Rattle.picker_marks.proofs.receipts.mark_as_writing_core.Goals as goal

pub judge_writing-requires : goal.judge_writing-requires
judge_writing-requires c = let m = c.admit in
    let t = stood_rows _ _ _ _ _ m.result m.ensures _ c.in_ok-s.was _ c.live_records-live.ensures in
    record { stands = t.stands; many = t.many; wide = t.long_rows }

pub mark_as_writing-m-requires : goal.mark_as_writing-m-requires
mark_as_writing-m-requires c = let m = c.admit in
    let b = c.judge_writing in
    let t = stood_rows _ _ _ _ _ m.result m.ensures _ c.in_ok-s.was _ c.live_records-live.ensures in
    let p = writing_accepted _ _ _ _ _ t.stands.bounds _ _ _ none
    (sym (b.ensures.is none 0) ∙ ap judged c.in_ok-judge_writing.was) in
    record {
      rows_stand = t;
      i_lt_pieces = p.0.place;
      i_value = p.1;
      min_draws_in_bounds = p.0.draw;
    }

pub returns-in_err-s : goal.returns-in_err-s
returns-in_err-s c = let m = c.admit in
    barred _ _ _ _ _ m.result m.ensures _ c.in_err-s.was _ (listless (do_mark_as_writing _ _ _ _) refl) c.from_residual.result c.from_residual.ensures.1

pub returns-in_err-judge_writing : goal.returns-in_err-judge_writing
returns-in_err-judge_writing c = let a = c.args in
    let m = c.admit in
    let n = c.live_records-live in
    let b = c.judge_writing in
    let peer = named_peer a.named.has_peer a.named.peer in
    block_denied _ _ _ _ _ m.result m.ensures _ c.in_ok-s.was n.result n.ensures
    (λ i j. do_mark_as_writing i j peer a.draws.now) (λ i j. listless (do_mark_as_writing i j peer a.draws.now) refl) _ _ _ _
    c.number-i.ensures c.block_number-j.ensures b.result (b.ensures.is peer 0) _ c.in_err-judge_writing.was c.from_residual-in_err-judge_writing.result c.from_residual-in_err-judge_writing.ensures.1

pub returns : goal.returns
unfolding act
returns c = let a = c.args in
    let m = c.admit in
    let i = c.number-i in
    let j = c.block_number-j in
    let n = c.live_records-live in
    let b = c.judge_writing in
    let x = c.mark_as_writing-m in
    let d = picker_in n.result a.rows.now a.words.now a.cells.now in
    let peer = named_peer a.named.has_peer a.named.peer in
    block_said _ _ _ _ _ m.result m.ensures _ c.in_ok-s.was n.result n.ensures
    (λ i j. do_mark_as_writing i j peer a.draws.now) (λ i j. listless (do_mark_as_writing i j peer a.draws.now) refl) _ _ _ _
    i.ensures j.ensures b.result (b.ensures.is peer 0) c.in_ok-judge_writing.was x.result.edit x.ensures.room _ _
    (mark_as_writing a.draws.now i.result j.result peer)
    (ap (λ (p : Option ℕ). changing (mark_as_writing a.draws.now i.result j.result p (drawing 0 d)))
    (lent_named a.named.has_peer a.named.peer (peer_wide a.named _ c.well_formed.1.1.1.1.1.0))) x.result.answer
    x.result.used x.ensures.change.says x.ensures.change.done

-- `abort_download_core` meets its contract. Assumes nothing.
use mathlib.Core.Path.{refl, ap}
use mathlib.Core.Option.{Option}
use Prim.Native.Nat.{ℕ}
use Rattle.types.specs.Peer.{named_peer}
use Rattle.model.specs.list.Order.{drawing}
use Rattle.model.specs.change.Changes.{abort_download}
use Rattle.model.specs.Calls.{do_abort_download, doing, act, refusal}
use Rattle.memory_rows.specs.Lookup.{picker_in}
use Rattle.picker_calls.proofs.ListlessLaws.{listless}
use Rattle.picker_calls.proofs.CoreLaws.{barred}
use Rattle.picker_blocks.proofs.BlockTable.{front_alone, front_place}
use Rattle.picker_blocks.proofs.BlockCores.{lent_named, stood_shape, stood_rows, block_denied, block_done}
use Rattle.picker_blocks.proofs.Values.{peer_wide}
use borrow.Author.Rules.{rules}
use Rattle.picker_giving.proofs.returns.abort_download_core.Goals as goal

pub judge_block-requires : goal.judge_block-requires
judge_block-requires c = let m = c.admit in
    stood_shape _ _ _ _ _ m.result m.ensures _ c.in_ok-s.was

pub abort_download-g-requires : goal.abort_download-g-requires
abort_download-g-requires c = let m = c.admit in
    let b = c.judge_block in
    let t = stood_rows _ _ _ _ _ m.result m.ensures _ c.in_ok-s.was _ c.live_records-live.ensures in
    record {
      rows_stand = t;
      i_lt_pieces = front_place _ _ _ _ t.stands _ _ _ b.result b.ensures c.in_ok-judge_block.was;
    }

pub returns-in_err-s : goal.returns-in_err-s
returns-in_err-s c = let m = c.admit in
    barred _ _ _ _ _ m.result m.ensures _ c.in_err-s.was _ (listless (do_abort_download _ _ _ _) refl) c.from_residual.result c.from_residual.ensures.1

pub returns-in_err-judge_block : goal.returns-in_err-judge_block
unfolding refusal
returns-in_err-judge_block c = let a = c.args in
    let m = c.admit in
    let b = c.judge_block in
    let t = stood_rows _ _ _ _ _ m.result m.ensures _ c.in_ok-s.was _ refl in
    let peer = named_peer a.named.has_peer a.named.peer in
    block_denied _ _ _ _ _ m.result m.ensures _ c.in_ok-s.was _ refl (λ i j. do_abort_download i j peer a.draws.now)
    (λ i j. listless (do_abort_download i j peer a.draws.now) refl) _ _ _ _ c.number-i.ensures c.block_number-j.ensures b.result
    (front_alone _ _ _ _ t.stands _ _ _ b.result b.ensures) _ c.in_err-judge_block.was c.from_residual-in_err-judge_block.result c.from_residual-in_err-judge_block.ensures.1

pub returns : goal.returns
unfolding refusal act
returns c = let a = c.args in
    let m = c.admit in
    let i = c.number-i in
    let j = c.block_number-j in
    let b = c.judge_block in
    let n = c.live_records-live in
    let x = c.abort_download-g in
    let t = stood_rows _ _ _ _ _ m.result m.ensures _ c.in_ok-s.was _ n.ensures in
    let d = picker_in n.result a.rows.now a.words.now a.cells.now in
    let peer = named_peer a.named.has_peer a.named.peer in
    block_done _ _ _ _ _ m.result m.ensures _ c.in_ok-s.was n.result n.ensures
    (λ i j. do_abort_download i j peer a.draws.now)
    (λ i j. listless (do_abort_download i j peer a.draws.now) refl) _ _ _ _ i.ensures j.ensures b.result
    (front_alone _ _ _ _ t.stands _ _ _ b.result b.ensures) c.in_ok-judge_block.was x.result.edit x.ensures.room _ _
    (abort_download a.draws.now i.result j.result peer)
    (ap (λ (p : Option ℕ). doing (abort_download a.draws.now i.result j.result p (drawing 0 d)))
    (lent_named a.named.has_peer a.named.peer (peer_wide a.named _ c.well_formed.1.1.1.1.1.0)))
    x.result.used x.ensures.change

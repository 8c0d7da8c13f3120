-- `ls_queue_place` asks of its caller what the queues ask, and answers a place of the row. Assumes nothing.
use mathlib.Core.Path.{sym, subst, ◌∙◌}
use native.Mathlib.Omega.{arith}
use Rattle.model.specs.Lists.{nth}
use Rattle.memory_rows.specs.Lookup.{LiveRows}
use Rattle.memory_queues.proofs.StandLaws.{in_queues}
use Rattle.memory_queues.proofs.EnterLaws.{shaped_fresh}
use Rattle.link_lists.proofs.QueueLaws.{queue_ends, queue_place, place_low}
use Rattle.link_lists.proofs.ls_queue_place.Goals as goal

pub download_queues-requires : goal.download_queues-requires
download_queues-requires c = let a = c.args in
    let e = sym c.from-s.ensures in
    let rows = subst (λ s. LiveRows s a.live a.rows.now a.words.now a.cells.now) e c.requires.live_rows in
    record {
      cells_span = rows.bounds.spans.in_cells;
      rows_len = c.requires.rows_len;
      in_queues = in_queues _ _ _ _ _ rows c.requires.cells_value;
      shaped = shaped_fresh;
    }

pub returns-then-sizes-q : goal.returns-then-sizes-q
unfolding nth
returns-then-sizes-q c = let a = c.args in
    let e = sym c.from-s.ensures in
    let rows = subst (λ s. LiveRows s a.live a.rows.now a.words.now a.cells.now) e c.requires.live_rows in
    queue_ends _ _ _ (c.download_queues.ensures.places a.words.now rows) _ c.requires.q_bound _
    (omega (arith, c.if-sizes-q.true))

pub place_at-requires : goal.place_at-requires
unfolding nth
place_at-requires c = let a = c.args in
    let e = sym c.from-s.ensures in
    let rows = subst (λ s. LiveRows s a.live a.rows.now a.words.now a.cells.now) e c.requires.live_rows in
    let held = c.download_queues.ensures.places a.words.now rows in
    (c.requires.q_bound, place_low _ _ _ held _ c.requires.q_bound _ c.requires.cells_value (omega (arith, c.if-sizes-q.false)))

pub returns : goal.returns
unfolding nth
returns c = let a = c.args in
    let e = sym c.from-s.ensures in
    let rows = subst (λ s. LiveRows s a.live a.rows.now a.words.now a.cells.now) e c.requires.live_rows in
    let held = c.download_queues.ensures.places a.words.now rows in
    c.place_at.ensures ∙ queue_place _ _ _ held _ c.requires.q_bound _ (omega (arith, c.if-sizes-q.false))

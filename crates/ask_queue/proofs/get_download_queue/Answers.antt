-- `get_download_queue` meets its contract: after q turns the partials of the first q queues are there. Assumes nothing.
use Prim.Native.Nat.{◌-◌, ◌<◌}
use Rattle.ask_picker.proofs.AskedLaws.{asked_rows, asked_queues}
use Rattle.ask_queue.proofs.InfoRecords.{Infos, queues_start, queues_next, queues_end, room, places_low, size_low}
use Rattle.memory_layout.proofs.OffsetLaws.{small}
use Rattle.memory_queues.proofs.EnterLaws.{shaped_fresh}
use Rattle.memory_rows.specs.Lookup.{picker_in}
use Rattle.model.specs.Lists.{nth}
use native.Mathlib.Omega.{arith}
use borrow.Author.Rules.{rules}
use Rattle.ask_queue.proofs.get_download_queue.Goals as goal

pub download_queues-requires : goal.download_queues-requires
download_queues-requires c = record {
  cells_span = c.requires.asked_counts.asked.stands.bounds.spans.in_cells;
  rows_len = c.requires.asked_counts.asked.wide;
  in_queues = asked_queues c.args.s c.args.live c.args.rows.now c.args.words.now
      c.args.cells.now c.requires.asked_counts.asked;
  shaped = shaped_fresh;
}

pub loop-q-init : goal.loop-q-init
loop-q-init c = queues_start _ _ _

pub put_queue-requires : goal.put_queue-requires
unfolding nth
put_queue-requires c = let v = asked_rows c.args.s c.args.live c.args.rows.now c.args.words.now c.args.cells.now c.requires.asked_counts.asked in
    let k = c.download_queues.ensures.places c.args.words.now v in
    let h : c.loop-q.q < 4 = omega (arith, c.loop-q-test.true) in record {
      rows_len = (c.requires.asked_counts.asked.wide, c.requires.asked_counts.wide);
      q_bound = (h, size_low c.args.s c.args.live c.args.rows.now c.args.counts.now c.args.words.now c.args.cells.now c.requires.asked_counts _ _ k c.loop-q.q h);
      places_low = places_low
          c.args.s c.args.live c.args.rows.now c.args.counts.now c.args.words.now c.args.cells.now c.requires.asked_counts _ _ k c.loop-q.q h;
      size_in_bounds = omega (
        arith,
        room c.args.s c.args.live c.args.rows.now c.args.counts.now c.args.words.now c.args.cells.now c.requires.asked_counts _ _ k c.loop-q.q c.loop-q.n h
            c.loop-q.invariant.number,
        c.loop-q.invariant.written.long,
        c.requires.places_in_bounds,
      );
    }

pub overflow_add-n : goal.overflow_add-n
unfolding nth
overflow_add-n c = let v = asked_rows c.args.s c.args.live c.args.rows.now c.args.words.now c.args.cells.now c.requires.asked_counts.asked in
    let k = c.download_queues.ensures.places c.args.words.now v in
    let h : c.loop-q.q < 4 = omega (arith, c.loop-q-test.true) in
    omega (
      arith,
      room c.args.s c.args.live c.args.rows.now c.args.counts.now c.args.words.now c.args.cells.now c.requires.asked_counts _ _ k c.loop-q.q c.loop-q.n h
          c.loop-q.invariant.number,
      (small c.args.s 0 0 c.requires.asked_counts.asked.stands.bounds.spans.in_words.sizes (omega arith) (omega arith)).places,
    )

pub loop-q-preserved : goal.loop-q-preserved
unfolding nth
loop-q-preserved c = let v = asked_rows c.args.s c.args.live c.args.rows.now c.args.words.now c.args.cells.now c.requires.asked_counts.asked in
    let k = c.download_queues.ensures.places c.args.words.now v in
    let h : c.loop-q.q < 4 = omega (arith, c.loop-q-test.true) in
    queues_next c.args.s c.args.live c.args.rows.now c.args.counts.now c.args.words.now c.args.cells.now c.requires.asked_counts _ _ k _ h _ _ _ _ c.loop-q.invariant
    c.put_queue.ensures

pub shape_of-out : goal.shape_of-out
shape_of-out c = c.loop-q.invariant.written.long

pub returns : goal.returns
returns c = let v = asked_rows c.args.s c.args.live c.args.rows.now c.args.words.now c.args.cells.now c.requires.asked_counts.asked in
    let k = c.download_queues.ensures.places c.args.words.now v in record {
      out_after = queues_end c.args.s c.args.live c.args.rows.now c.args.counts.now c.args.words.now c.args.cells.now c.requires.asked_counts _ _ k _ _ _ _ c.loop-q.invariant
          (omega (arith, c.loop-q-test.false));
      written = c.loop-q.invariant.written;
    }

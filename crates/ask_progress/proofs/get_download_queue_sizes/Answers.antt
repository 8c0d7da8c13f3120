-- `get_download_queue_sizes` meets its contract. Assumes nothing.
use mathlib.Core.Path.{refl}
use borrow.Author.Rules.{rules}
use Rattle.model.specs.Lists.{nth}
use Rattle.memory_queues.proofs.EnterLaws.{shaped_fresh}
use Rattle.ask_picker.proofs.AskedLaws.{asked_rows, asked_queues}
use Rattle.ask_progress.proofs.SizeLaws.{sizes_told}
use Rattle.ask_progress.proofs.get_download_queue_sizes.Goals as goal

pub download_queues-requires : goal.download_queues-requires
download_queues-requires c = let g = asked_queues c.args.s c.args.live c.args.rows.now c.args.words.now c.args.cells.now c.requires in
    record {
      cells_span = c.requires.stands.bounds.spans.in_cells;
      rows_len = c.requires.wide;
      in_queues = g;
      shaped = shaped_fresh;
    }

pub returns : goal.returns
unfolding nth
returns c = let g = asked_rows c.args.s c.args.live c.args.rows.now c.args.words.now c.args.cells.now c.requires in
    sizes_told _ _ _ (c.download_queues.ensures.places c.args.words.now g) _ refl refl refl refl

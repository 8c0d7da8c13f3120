-- `standing_in` meets its contract. Assumes nothing.
use mathlib.Core.Path.{ap, ◌∙◌}
use Rattle.memory_records.specs.declared.record.DownloadingPiece.{DownloadingPiece as Record}
use Rattle.change_tally.proofs.TallyLaws.{row_low}
use Rattle.change_tally.proofs.standing.standing_in.Goals as goal

pub row-record-requires : goal.row-record-requires
row-record-requires c = (row_low _ _ _ _ _ _ c.requires.tallies_beside, c.requires.rows_len.0)

pub finished-held-requires : goal.finished-held-requires
finished-held-requires c = (row_low _ _ _ _ _ _ c.requires.tallies_beside, c.requires.rows_len.1)

pub returns : goal.returns
returns c = record {
  place = c.u32_to_usize-place.ensures ∙ ap (λ (x : Record). x.info_idx) c.row-record.ensures;
  flags = ap (λ (x : Record). x.flags) c.row-record.ensures;
  tally = c.tally_of-tally.ensures;
  finished = c.finished-held.ensures;
}

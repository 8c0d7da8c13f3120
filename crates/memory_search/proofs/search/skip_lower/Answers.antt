use Rattle.std.proofs.Common.{◌+◌, ◌<◌, ap, arith, get_or}
use Rattle.memory_records.specs.declared.record.DownloadingPiece.{DownloadingPiece}
use Rattle.memory_records.specs.Records.{no_record}
use Rattle.memory_records.proofs.laws.RisingLaws.{lower_up_to}
use Rattle.memory_search.proofs.search.skip_lower.Goals as goal

pub loop-k-preserved : goal.loop-k-preserved
loop-k-preserved c =
    let ds = c.args.partials.now in
    let last = c.loop-k.k + 15 in
    let low : (get_or ds last no_record).index < c.args.piece
    = omega (arith, c.if-piece-d.false, ap (λ (d : DownloadingPiece). d.index) c.get-d.ensures) in
    (omega arith, λ j l. lower_up_to c.args.n c.args.piece ds c.requires last (omega arith) low j (omega arith))

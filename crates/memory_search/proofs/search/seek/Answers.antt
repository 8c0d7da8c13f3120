use Rattle.std.proofs.Common.{ℕ, ap, ◌∙◌, arith, get_or}
use lib.Dec.{eqb, eqb→eq}
use Rattle.memory_records.specs.declared.record.DownloadingPiece.{DownloadingPiece}
use Rattle.memory_records.specs.Records.{no_record}
use Rattle.memory_records.proofs.laws.SearchLaws.{fails}
use Rattle.memory_search.proofs.laws.FirstLaws.{step_on, skips_seek}
use Rattle.memory_search.proofs.search.seek.Goals as goal

pub loop-k-init : goal.loop-k-init
loop-k-init c = record {
  within = c.skip_lower-k.ensures.0;
  same = skips_seek c.args.n c.args.piece c.args.partials.now c.skip_lower-k.result c.skip_lower-k.ensures;
}

pub loop-k-preserved : goal.loop-k-preserved
loop-k-preserved c =
    let ds = c.args.partials.now in
    record {
      within = omega arith;
      same = c.loop-k.invariant.same ∙ step_on (λ (i : ℕ). eqb (get_or ds i no_record).index c.args.piece) c.args.n c.loop-k.k c.loop-k-test.true
          (fails (eqb (get_or ds c.loop-k.k no_record).index c.args.piece) (λ t. c.if-d-piece.false (ap (λ (d : DownloadingPiece). d.index) c.get-d.ensures ∙ eqb→eq _ _ t)));
    }

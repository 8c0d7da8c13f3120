use Rattle.std.proofs.Common.{◌≡◌, ℕ, suc, ◌+◌, ◌-◌, ◌<◌, ◌≤◌, List, refl, sym, ap, ◌∙◌, arith, length, get_or}
use Rattle.memory_records.specs.declared.record.DownloadingPiece.{DownloadingPiece}
use Rattle.memory_records.specs.Records.{no_record}
use Rattle.memory_records.specs.Rows.{row_put, unpack_from, unpacked}
use Rattle.memory_records.proofs.laws.LiveLaws.{lesser_min}
use Rattle.memory_records.proofs.laws.RowLaws.{length_put}
use Rattle.memory_records.proofs.rows.unpack.Goals as goal

next : (n k : ℕ) (ds : List DownloadingPiece) (rows : List ℕ) → k < n
    → unpack_from (n - (k + 1)) (k + 1) ds (row_put rows k (get_or ds k no_record)) ≡ unpack_from (n - k) k ds rows
next n k ds rows h =
    let left : n - k ≡ suc (n - (k + 1)) = omega arith in
    let place : k + 1 ≡ suc k = omega arith in
    ap (λ (j : ℕ). unpack_from (n - (k + 1)) j ds (row_put rows k (get_or ds k no_record))) place
    ∙ sym (ap (λ (t : ℕ). unpack_from t k ds rows) left)

-- with none left it is done
done : (n k : ℕ) (ds : List DownloadingPiece) (rows : List ℕ) → n ≤ k → unpack_from (n - k) k ds rows ≡ rows
done n k ds rows h = let none : n - k ≡ 0 = omega arith in ap (λ (t : ℕ). unpack_from t k ds rows) none

pub loop-k-preserved : goal.loop-k-preserved
loop-k-preserved c =
    let n = c.min-n.result in
    let ds = c.args.partials.now in
    let step : c.set_row.new.rows ≡ row_put c.loop-k.rows c.loop-k.k (get_or ds c.loop-k.k no_record)
    = c.set_row.ensures ∙ ap (row_put c.loop-k.rows c.loop-k.k) c.get-d.ensures in
    record {
      within = omega arith;
      long = ap length step ∙ length_put c.loop-k.rows c.loop-k.k (get_or ds c.loop-k.k no_record) ∙ c.loop-k.invariant.long;
      same = ap (unpack_from (n - (c.loop-k.k + 1)) (c.loop-k.k + 1) ds) step ∙ next n c.loop-k.k ds c.loop-k.rows c.loop-k-test.true
          ∙ c.loop-k.invariant.same;
    }

pub returns : goal.returns
unfolding unpacked
returns c =
    let ds = c.args.partials.now in (
      refl,
      sym (done c.min-n.result c.loop-k.k ds c.loop-k.rows c.loop-k-test.false) ∙ c.loop-k.invariant.same
          ∙ ap (λ (t : ℕ). unpack_from t 0 ds c.args.rows.now) (c.min-n.ensures ∙ lesser_min _ _),
    )

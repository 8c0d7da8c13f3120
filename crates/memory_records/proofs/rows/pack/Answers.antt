use Rattle.std.proofs.Common.{◌≡◌, ℕ, suc, ◌+◌, ◌-◌, ◌<◌, ◌≤◌, List, sym, ap, ◌∙◌, arith, rules, set}
use Rattle.memory_records.specs.declared.record.DownloadingPiece.{DownloadingPiece}
use Rattle.memory_records.specs.Rows.{row_at, pack_from, packed}
use Rattle.memory_records.proofs.rows.pack.Goals as goal

next : (n k : ℕ) (rows : List ℕ) (ds : List DownloadingPiece) → k < n
    → pack_from (n - (k + 1)) (k + 1) rows (set ds k (row_at rows k)) ≡ pack_from (n - k) k rows ds
next n k rows ds h =
    let left : n - k ≡ suc (n - (k + 1)) = omega arith in
    let place : k + 1 ≡ suc k = omega arith in
    ap (λ (j : ℕ). pack_from (n - (k + 1)) j rows (set ds k (row_at rows k))) place
    ∙ sym (ap (λ (t : ℕ). pack_from t k rows ds) left)

-- with none left it is done
done : (n k : ℕ) (rows : List ℕ) (ds : List DownloadingPiece) → n ≤ k → pack_from (n - k) k rows ds ≡ ds
done n k rows ds h = let none : n - k ≡ 0 = omega arith in ap (λ (t : ℕ). pack_from t k rows ds) none

pub loop-k-preserved : goal.loop-k-preserved
loop-k-preserved c = record {
  within = omega arith;
  long = search rules;
  same = ap (pack_from (c.args.n - (c.loop-k.k + 1)) (c.loop-k.k + 1) c.args.rows.now) (c.put.ensures ∙ ap (set c.loop-k.partials c.loop-k.k) c.row-d.ensures)
      ∙ next c.args.n c.loop-k.k c.args.rows.now c.loop-k.partials c.loop-k-test.true ∙ c.loop-k.invariant.same;
}

pub returns : goal.returns
unfolding packed
returns c = sym (done c.args.n c.loop-k.k c.args.rows.now c.loop-k.partials c.loop-k-test.false) ∙ c.loop-k.invariant.same

-- The place that is found is among the first n, or right behind them.
use Rattle.std.proofs.Common.{ℕ, ◌≤◌, get_or, ltb, arith}
use Rattle.memory_records.specs.Records.{no_record, above_from}
use Rattle.memory_search.proofs.laws.FirstLaws.{first_within}
use Rattle.memory_edits.proofs.edits.insert.Goals as goal

pub open_gap-requires : goal.open_gap-requires
open_gap-requires c =
    let a = c.args in
    let within : above_from a.n 0 a.partials.now a.d.index ≤ a.n
    = first_within (λ (i : ℕ). ltb a.d.index (get_or a.partials.now i no_record).index) a.n in
    (omega (arith, c.position-q.ensures), c.requires.0)

pub put-requires : goal.put-requires
put-requires c =
    let a = c.args in
    let within : above_from a.n 0 a.partials.now a.d.index ≤ a.n
    = first_within (λ (i : ℕ). ltb a.d.index (get_or a.partials.now i no_record).index) a.n in
    omega (arith, c.position-q.ensures, c.requires.0, c.open_gap.auto.partials)

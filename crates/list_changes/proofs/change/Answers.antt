-- `change` meets its contract: forward where the rank fell, back where it rose. Assumes nothing.
use borrow.Author.Rules.{rules}
use mathlib.Core.Path.{ap, ◌∙◌}
use Prim.Native.Nat.{ℕ, ◌+◌, ◌-◌, ◌<◌}
use native.Mathlib.Omega.{arith}
use lib.Dec.{ltb}
use Rattle.model.proofs.base.Counts.{bit_le}
use Rattle.list_entries.specs.Words.{listed_rank}
use Rattle.list_changes.proofs.Groups.{group_before, group_behind}
use Rattle.list_changes.proofs.Changing.{rank_fell, rank_rose, old_rank, change_draws_lem, goes_earlier, goes_later}
use Rattle.list_changes.proofs.change.Goals as goal

pub place_from-k-requires : goal.place_from-k-requires
place_from-k-requires c = record {
  end_in_bounds = c.requires.n_in_bounds;
  from_bound = c.start_of-low.ensures.0;
  list_bound = c.requires.list_bound;
}

pub group_before-g-requires : goal.group_before-g-requires
group_before-g-requires c = record {
  end_in_bounds = omega (arith, c.start_of-low.ensures.0, c.requires.list_bound, c.requires.n_in_bounds);
  rises = (λ k m a f d. c.requires.rises k m a f (omega (arith, c.start_of-low.ensures.0, c.requires.list_bound)));
  w_nonzero = c.requires.w_nonzero;
}

pub to_earlier-requires : goal.to_earlier-requires
to_earlier-requires c = record {
  low_le_high = c.group_before-g.ensures.rises;
  high_le_k = omega (arith, c.group_before-g.ensures.ends, c.start_of-low.ensures.0, c.place_from-k.ensures);
  k_in_bounds = omega (arith, c.place_from-k.ensures, c.requires.list_bound, c.requires.n_in_bounds);
  rises = λ k m a f d. c.requires.rises k m (omega arith) f (omega (arith, c.place_from-k.ensures, c.requires.list_bound));
}

pub overflow_sub-g : goal.overflow_sub-g
overflow_sub-g c = c.group_before-g.ensures.rises

pub overflow_add-result : goal.overflow_add-result
overflow_add-result c = omega (arith, c.some.ensures, bit_le (ltb 0 (c.group_before-g.result.high - c.group_before-g.result.low)), c.requires.used_in_bounds)

pub returns-then-w-v : goal.returns-then-w-v
returns-then-w-v c = let q = rank_fell c.args.v c.args.w c.requires.w_nonzero_2 c.if-w-v.true in
    let group = group_before c.args.list.now c.requires.rises (omega (arith, c.start_of-low.ensures.0, c.requires.list_bound)) c.group_before-g.ensures (omega (arith, q, c.start_of-low.ensures.1)) in record {
      list_after = c.to_earlier.ensures
          ∙ goes_earlier c.args.v c.args.w c.args.n c.args.list.now c.requires.n_in_bounds c.requires.list_bound c.requires.list_value group c.args.draws.now c.args.used q
          (omega (arith, c.group_before-g.ensures.ends, c.start_of-low.ensures.0)) c.place_from-k.result c.place_from-k.ensures;
      value = ap (λ (d : ℕ). c.args.used + d) (c.some.ensures
          ∙ change_draws_lem c.args.v c.args.w c.args.n c.args.list.now c.requires.n_in_bounds c.requires.list_bound c.requires.list_value group c.requires.w_nonzero_2);
    }

pub overflow_add-k : goal.overflow_add-k
overflow_add-k c = omega (arith, c.place_from-k.ensures, c.requires.list_bound, c.requires.n_in_bounds)

pub group_ahead-g-requires : goal.group_ahead-g-requires
group_ahead-g-requires c = record {
  from_le_end = omega (arith, c.place_from-k.ensures, c.requires.list_bound);
  end_in_bounds = c.requires.n_in_bounds;
  rises = (λ k m a f d. c.requires.rises k m (omega arith) f d);
  w_nonzero = c.requires.w_nonzero;
}

pub to_later-requires : goal.to_later-requires
to_later-requires c = record {
  k_lt_low = omega (arith, c.group_ahead-g.ensures.starts);
  low_le_high = c.group_ahead-g.ensures.rises;
  high_in_bounds = omega (arith, c.group_ahead-g.ensures.ends, c.requires.n_in_bounds);
  rises = λ k m a f d. c.requires.rises k m (omega arith) f (omega (arith, c.group_ahead-g.ensures.rises, c.group_ahead-g.ensures.ends));
}

pub overflow_sub-g-2 : goal.overflow_sub-g-2
overflow_sub-g-2 c = c.group_ahead-g.ensures.rises

pub overflow_add-result-2 : goal.overflow_add-result-2
overflow_add-result-2 c = omega (arith, c.some-2.ensures, bit_le (ltb 0 (c.group_ahead-g.result.high - c.group_ahead-g.result.low)), c.requires.used_in_bounds)

pub returns : goal.returns
returns c = let q = rank_rose c.args.v c.args.w c.requires.w_nonzero_2 c.if-w-v.false in
    let group = group_behind c.args.list.now c.requires.rises (omega (arith, c.place_from-k.ensures, c.requires.list_bound)) c.group_ahead-g.ensures
    (old_rank c.args.v c.args.n c.place_from-k.result c.args.list.now (λ (rank : ℕ). rank < listed_rank c.args.w) c.requires.n_in_bounds c.requires.list_bound c.place_from-k.ensures q) in record {
      list_after = c.to_later.ensures
          ∙ goes_later c.args.v c.args.w c.args.n c.args.list.now c.requires.n_in_bounds c.requires.list_bound c.requires.list_value group c.args.draws.now c.args.used q
          (omega (arith, c.group_ahead-g.ensures.starts, c.place_from-k.ensures)) c.place_from-k.result c.place_from-k.ensures;
      value = ap (λ (d : ℕ). c.args.used + d) (c.some-2.ensures
          ∙ change_draws_lem c.args.v c.args.w c.args.n c.args.list.now c.requires.n_in_bounds c.requires.list_bound c.requires.list_value group c.requires.w_nonzero_2);
    }

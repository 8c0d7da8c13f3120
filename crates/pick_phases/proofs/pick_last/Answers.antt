-- `pick_last` meets its contract. Assumes nothing.
use mathlib.Core.Path.{◌∙◌}
use native.Mathlib.Omega.{arith}
use Rattle.pick_state.specs.Requests.{request_of}
use Rattle.pick_phases.proofs.UsedLaws.{low_risen, low_most}
use Rattle.pick_phases.proofs.PhaseLaws.{rest_asks, rest_counts, last_stop, last_on}
use Rattle.pick_phases.proofs.pick_last.Goals as goal

pub pick_main-u-requires : goal.pick_main-u-requires
pick_main-u-requires c = record {
  picks = c.requires.picks;
  underway = c.requires.underway;
  le_left = c.requires.le_left;
}

pub shape_of-words-then-u-eq0 : goal.shape_of-words-then-u-eq0
shape_of-words-then-u-eq0 c = c.pick_main-u.ensures.moved.words_kept.long

pub shape_of-out-then-u-eq0 : goal.shape_of-out-then-u-eq0
shape_of-out-then-u-eq0 c = c.pick_main-u.ensures.moved.kept.long

pub shape_of-aside-then-u-eq0 : goal.shape_of-aside-then-u-eq0
shape_of-aside-then-u-eq0 c = c.pick_main-u.ensures.moved.long_aside

pub shape_of-ignored-then-u-eq0 : goal.shape_of-ignored-then-u-eq0
shape_of-ignored-then-u-eq0 c = c.pick_main-u.ensures.moved.long_ignored

pub shape_of-loops-then-u-eq0 : goal.shape_of-loops-then-u-eq0
shape_of-loops-then-u-eq0 c = c.pick_main-u.ensures.moved.long_loops

pub returns-then-u-eq0 : goal.returns-then-u-eq0
returns-then-u-eq0 c = last_stop c.args.draws.now (request_of c.args.q c.args.bytes.now) c.pick_main-u.ensures.moved c.if-u-eq0.true

pub pick_rest-requires : goal.pick_rest-requires
pick_rest-requires c = record {
  picks = c.pick_main-u.ensures.moved.picks;
  left_in_bounds = rest_asks c.pick_main-u.ensures.moved.underway;
  used_bound = (omega arith, rest_counts c.pick_main-u.ensures.moved.underway (low_most (omega arith) (low_risen c.requires.le_left.2 c.pick_main-u.ensures.risen.0)));
}

pub shape_of-words : goal.shape_of-words
shape_of-words c = c.pick_main-u.ensures.moved.words_kept.long

pub shape_of-out : goal.shape_of-out
shape_of-out c = (c.pick_rest.ensures.worked c.args.ignored.now).did.kept.long ∙ c.pick_main-u.ensures.moved.kept.long

pub shape_of-aside : goal.shape_of-aside
shape_of-aside c = c.pick_main-u.ensures.moved.long_aside

pub shape_of-ignored : goal.shape_of-ignored
shape_of-ignored c = c.pick_main-u.ensures.moved.long_ignored

pub shape_of-loops : goal.shape_of-loops
shape_of-loops c = (c.pick_rest.ensures.worked c.args.ignored.now).did.long_loops ∙ c.pick_main-u.ensures.moved.long_loops

pub returns : goal.returns
returns c = last_on c.args.draws.now (request_of c.args.q c.args.bytes.now) c.pick_main-u.ensures.moved c.if-u-eq0.false c.pick_rest.ensures

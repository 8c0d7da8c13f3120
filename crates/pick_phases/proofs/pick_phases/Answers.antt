-- `pick_phases` meets its contract. Assumes nothing.
use mathlib.Core.Path.{refl, ◌∙◌}
use native.Mathlib.Omega.{arith}
use Rattle.types.specs.Piece.{number_of}
use Rattle.model.specs.Lists.{each}
use Rattle.pick_state.specs.Requests.{request_of}
use Rattle.pick_free.proofs.FreeLaws.{above_none}
use Rattle.pick_phases.proofs.UsedLaws.{low_risen, low_most}
use Rattle.pick_phases.proofs.PhaseLaws.{phases_stop, phases_on}
use Rattle.pick_phases.proofs.pick_phases.Goals as goal

pub pick_first-u-requires : goal.pick_first-u-requires
pick_first-u-requires c = record {
  picks = c.requires.picks;
  counts_held = c.requires.counts_held;
  underway = c.requires.underway;
  le_left = (c.requires.le_left.0, c.requires.le_left.1, c.requires.le_left.3, c.requires.le_left.4);
}

pub shape_of-out-then-u-eq0 : goal.shape_of-out-then-u-eq0
shape_of-out-then-u-eq0 c = c.pick_first-u.ensures.stepped.did.kept.long

pub shape_of-aside-then-u-eq0 : goal.shape_of-aside-then-u-eq0
shape_of-aside-then-u-eq0 c = c.pick_first-u.ensures.stepped.did.long_aside

pub shape_of-ignored-then-u-eq0 : goal.shape_of-ignored-then-u-eq0
shape_of-ignored-then-u-eq0 c = c.pick_first-u.ensures.stepped.did.long_ignored

pub shape_of-loops-then-u-eq0 : goal.shape_of-loops-then-u-eq0
shape_of-loops-then-u-eq0 c = c.pick_first-u.ensures.stepped.did.long_loops

pub returns-then-u-eq0 : goal.returns-then-u-eq0
returns-then-u-eq0 c = phases_stop c.requires.picks c.args.draws.now (request_of c.args.q c.args.bytes.now) (each number_of c.args.suggestions.now)
    c.pick_first-u.ensures.stepped c.if-u-eq0.true

pub pick_last-requires : goal.pick_last-requires
pick_last-requires c = record {
  picks = c.requires.picks;
  underway = c.pick_first-u.ensures.stepped.underway;
  le_left = (
    above_none c.pick_first-u.result.left c.if-u-eq0.false,
    omega arith,
    low_most (omega arith) (low_risen c.requires.le_left.4 c.pick_first-u.ensures.risen.0),
  );
}

pub shape_of-words : goal.shape_of-words
shape_of-words c = c.pick_last.ensures.words_kept.long

pub shape_of-out : goal.shape_of-out
shape_of-out c = c.pick_last.ensures.kept.long ∙ c.pick_first-u.ensures.stepped.did.kept.long

pub shape_of-aside : goal.shape_of-aside
shape_of-aside c = c.pick_last.ensures.long_aside ∙ c.pick_first-u.ensures.stepped.did.long_aside

pub shape_of-ignored : goal.shape_of-ignored
shape_of-ignored c = c.pick_last.ensures.long_ignored ∙ c.pick_first-u.ensures.stepped.did.long_ignored

pub shape_of-loops : goal.shape_of-loops
shape_of-loops c = c.pick_last.ensures.long_loops ∙ c.pick_first-u.ensures.stepped.did.long_loops

pub returns : goal.returns
returns c = phases_on c.requires.picks c.args.draws.now (request_of c.args.q c.args.bytes.now) (each number_of c.args.suggestions.now)
    c.pick_first-u.ensures.stepped c.if-u-eq0.false c.pick_last.ensures

-- `pick_first` meets its contract. Assumes nothing.
use mathlib.Core.Path.{◌∙◌}
use native.Mathlib.Omega.{arith}
use Rattle.types.specs.Piece.{number_of}
use Rattle.model.specs.Lists.{each}
use Rattle.pick_state.specs.Requests.{request_of}
use Rattle.pick_free.proofs.FreeLaws.{above_none}
use Rattle.pick_rarest.proofs.RarestLaws.{counted_risen}
use Rattle.pick_phases.proofs.UsedLaws.{low_risen, risen_most, risen_then}
use Rattle.pick_phases.proofs.PhaseLaws.{first_stop, first_on, first_used, then_used}
use Rattle.pick_phases.proofs.pick_first.Goals as goal

pub pick_partials-u-requires : goal.pick_partials-u-requires
pick_partials-u-requires c = record {
  picks = c.requires.picks;
  counts_held = c.requires.counts_held;
  marks_room = record { ignored = c.args.ignored.now; underway = c.requires.underway };
  le_left = (c.requires.le_left.0, omega (arith, c.requires.le_left.3.low 0));
}

pub shape_of-out-then-u-eq0 : goal.shape_of-out-then-u-eq0
shape_of-out-then-u-eq0 c = (c.pick_partials-u.ensures.stepped_unmarked c.args.ignored.now c.requires.underway).did.kept.long

pub shape_of-aside-then-u-eq0 : goal.shape_of-aside-then-u-eq0
shape_of-aside-then-u-eq0 c = (c.pick_partials-u.ensures.stepped_unmarked c.args.ignored.now c.requires.underway).did.long_aside

pub shape_of-loops-then-u-eq0 : goal.shape_of-loops-then-u-eq0
shape_of-loops-then-u-eq0 c = (c.pick_partials-u.ensures.stepped_unmarked c.args.ignored.now c.requires.underway).did.long_loops

pub returns-then-u-eq0 : goal.returns-then-u-eq0
returns-then-u-eq0 c = let r = request_of c.args.q c.args.bytes.now in
    let is = each number_of c.args.suggestions.now in
    let x = c.pick_partials-u.ensures.stepped_unmarked c.args.ignored.now c.requires.underway in record {
      stepped = first_stop r is x c.if-u-eq0.true;
      risen = (
        risen_most (omega arith) c.pick_partials-u.ensures.risen,
        first_used r is x c.requires.le_left.0 c.requires.le_left.1,
      );
    }

pub pick_suggested-requires : goal.pick_suggested-requires
pick_suggested-requires c = let x = c.pick_partials-u.ensures.stepped_unmarked c.args.ignored.now c.requires.underway in
    let l = low_risen c.requires.le_left.3 c.pick_partials-u.ensures.risen in
    record {
      picks = c.requires.picks;
      underway = x.underway;
      le_left = (above_none c.pick_partials-u.result.left c.if-u-eq0.false, c.requires.le_left.2, omega (arith, l.low 1));
    }

pub shape_of-out : goal.shape_of-out
shape_of-out c = c.pick_suggested.ensures.stepped.did.kept.long
    ∙ (c.pick_partials-u.ensures.stepped_unmarked c.args.ignored.now c.requires.underway).did.kept.long

pub shape_of-aside : goal.shape_of-aside
shape_of-aside c = c.pick_suggested.ensures.stepped.did.long_aside
    ∙ (c.pick_partials-u.ensures.stepped_unmarked c.args.ignored.now c.requires.underway).did.long_aside

pub shape_of-ignored : goal.shape_of-ignored
shape_of-ignored c = c.pick_suggested.ensures.stepped.did.long_ignored

pub shape_of-loops : goal.shape_of-loops
shape_of-loops c = c.pick_suggested.ensures.stepped.did.long_loops
    ∙ (c.pick_partials-u.ensures.stepped_unmarked c.args.ignored.now c.requires.underway).did.long_loops

pub returns : goal.returns
returns c = let r = request_of c.args.q c.args.bytes.now in
    let is = each number_of c.args.suggestions.now in
    let x = c.pick_partials-u.ensures.stepped_unmarked c.args.ignored.now c.requires.underway in
    record {
      stepped = first_on r is x c.if-u-eq0.false c.pick_suggested.ensures.stepped;
      risen = (
        risen_most (omega arith) (risen_then c.pick_partials-u.ensures.risen (counted_risen c.pick_suggested.ensures.counted)),
        then_used r is x c.requires.le_left.0 c.requires.le_left.1 c.if-u-eq0.false c.pick_suggested.ensures.stepped,
      );
    }

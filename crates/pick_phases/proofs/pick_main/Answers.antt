-- `pick_main` meets its contract. Assumes nothing.
use mathlib.Core.Path.{refl}
use native.Mathlib.Omega.{arith}
use borrow.Author.Rules.{rules}
use Rattle.model.specs.pick.Blocks.{option}
use Rattle.pick_state.specs.Requests.{request_of}
use Rattle.pick_extents.proofs.MoveLaws.{stepped_moved}
use Rattle.pick_phases.proofs.UsedLaws.{risen_most}
use Rattle.pick_phases.proofs.PhaseLaws.{main_listed, main_random, main_used}
use Rattle.pick_phases.proofs.pick_main.Goals as goal

pub pick_listed-requires : goal.pick_listed-requires
pick_listed-requires c = record {
  picks = c.requires.picks;
  underway = c.requires.underway;
  le_left = (c.requires.le_left.0, omega arith, omega (arith, c.requires.le_left.2.low 2), omega (arith, c.requires.le_left.2.low 3));
}

pub shape_of-words-then-sequential-rarest : goal.shape_of-words-then-sequential-rarest
shape_of-words-then-sequential-rarest c = c.pick_listed.ensures.moved.words_kept.long

pub shape_of-out-then-sequential-rarest : goal.shape_of-out-then-sequential-rarest
shape_of-out-then-sequential-rarest c = c.pick_listed.ensures.moved.kept.long

pub shape_of-aside-then-sequential-rarest : goal.shape_of-aside-then-sequential-rarest
shape_of-aside-then-sequential-rarest c = c.pick_listed.ensures.moved.long_aside

pub shape_of-ignored-then-sequential-rarest : goal.shape_of-ignored-then-sequential-rarest
shape_of-ignored-then-sequential-rarest c = c.pick_listed.ensures.moved.long_ignored

pub shape_of-loops-then-sequential-rarest : goal.shape_of-loops-then-sequential-rarest
shape_of-loops-then-sequential-rarest c = c.pick_listed.ensures.moved.long_loops

pub returns-then-sequential-rarest : goal.returns-then-sequential-rarest
unfolding option request_of
returns-then-sequential-rarest c = let r = request_of c.args.q c.args.bytes.now in record {
  moved = main_listed c.args.draws.now r c.contains-sequential.result c.contains-rarest.result c.contains-sequential.ensures
      c.contains-rarest.ensures c.if-sequential-rarest.true c.pick_listed.ensures.moved;
  risen = (
    risen_most (omega arith) c.pick_listed.ensures.risen,
    main_used c.args.draws.now r c.requires.picks c.requires.le_left.0 c.requires.le_left.1 c.pick_listed.ensures.moved,
  );
}

pub pick_random-requires : goal.pick_random-requires
pick_random-requires c = record {
  picks = c.requires.picks;
  underway = c.requires.underway;
  le_left = (c.requires.le_left.0, omega arith, omega (arith, c.requires.le_left.2.low 4), omega (arith, c.requires.le_left.2.low 5));
}

pub shape_of-out : goal.shape_of-out
shape_of-out c = c.pick_random.ensures.stepped.did.kept.long

pub shape_of-aside : goal.shape_of-aside
shape_of-aside c = c.pick_random.ensures.stepped.did.long_aside

pub shape_of-ignored : goal.shape_of-ignored
shape_of-ignored c = c.pick_random.ensures.stepped.did.long_ignored

pub shape_of-loops : goal.shape_of-loops
shape_of-loops c = c.pick_random.ensures.stepped.did.long_loops

pub returns : goal.returns
unfolding option request_of
returns c = let r = request_of c.args.q c.args.bytes.now in
    record {
      moved = main_random c.args.draws.now r c.contains-sequential.result c.contains-rarest.result c.contains-sequential.ensures
          c.contains-rarest.ensures c.if-sequential-rarest.false (stepped_moved c.requires.picks c.pick_random.ensures.stepped);
      risen = (
        c.pick_random.ensures.risen.0,
        omega arith,
      );
    }

-- `take_span` meets its contract. Assumes nothing.
use mathlib.Core.Path.{◌∙◌}
use Rattle.pick_new.proofs.RunLaws.{RunRest, run_start, part_blocks, span_next, span_end}
use Rattle.pick_new.specs.Runs.{InWords}
use Rattle.model.specs.pick.Blocks.{take_payload, take_span}
use Rattle.model.specs.Lists.{range}
use mathlib.Core.List.{List, []}
use Prim.Native.Nat.{ℕ, ◌-◌, ◌*◌, ◌≤◌}
use native.Mathlib.Omega.{arith}
use borrow.Author.Rules.{rules}
use Rattle.pick_new.proofs.spans.take_span.Goals as goal

pub loop-k-init : goal.loop-k-init
loop-k-init c = (
  omega arith,
  omega arith,
  λ loops. run_start (InWords c.args.s c.args.words.now) (take_span take_payload (range c.args.first c.args.end))
      ((c.args.first - c.args.first) * c.args.s.blocks) c.args.t c.args.out.now c.args.ignored.now loops,
)

pub span_step-cur-requires : goal.span_step-cur-requires
span_step-cur-requires c = let v = c.loop-k.invariant.2 [] in
    let k = v.kept.long in
    let x = (part_blocks c.args.first c.loop-k.k c.args.end c.args.s.blocks c.loop-k.invariant.0 (omega arith)).1 in record {
      run_room = record {
        picker = c.requires.run_room.picker;
        stands = c.requires.run_room.stands;
        marks = v.marks ∙ c.requires.run_room.marks;
        room = omega (arith, v.few, c.requires.run_room.room);
        given = omega (arith, v.given, c.requires.run_room.given);
      };
      k_lt_pieces = omega arith;
    }

pub loop-k-preserved : goal.loop-k-preserved
loop-k-preserved c = (
  omega arith,
  omega arith,
  λ loops. span_next take_payload c.args.first c.args.end c.args.s.blocks (c.loop-k.invariant.2 loops) c.loop-k.invariant.0 (omega arith)
      (c.span_step-cur.ensures loops),
)

pub shape_of-out : goal.shape_of-out
shape_of-out c = (c.loop-k.invariant.2 []).kept.long

pub shape_of-ignored : goal.shape_of-ignored
shape_of-ignored c = (c.loop-k.invariant.2 []).marks

pub returns : goal.returns
returns c loops = span_end take_payload c.args.first c.args.end c.args.s.blocks (c.loop-k.invariant.2 loops) c.loop-k.invariant.1 (omega arith)

-- `pick_program` meets its contract. Assumes nothing.
use mathlib.Core.Path.{ap₂, ◌∙◌}
use mathlib.Core.List.{List, []}
use Prim.Native.Nat.{ℕ}
use native.Mathlib.Omega.{arith}
use lib.ListN.{length, replicate}
use Rattle.model.specs.Lists.{each}
use Rattle.memory_rows.specs.Lookup.{picker_in}
use Rattle.pick_state.specs.declared.request.PickRequest.{PickRequest as Request}
use Rattle.pick_start.specs.Starting.{request_with}
use Rattle.pick_job.specs.Jobs.{pick_answered, request_ones}
use Rattle.pick_job.proofs.PickLaws.{few_bytes, ones_are, ones_long, bits_are}
use borrow.Author.Rules.{rules}
use Rattle.pick_job.proofs.picking.pick_program.Goals as goal

pub slice_bounds-ones-end : goal.slice_bounds-ones-end
slice_bounds-ones-end c = omega (arith, few_bytes _ c.requires.asked.1, c.num_bytes-n.ensures)

pub slice_bounds-pick_with-end : goal.slice_bounds-pick_with-end
slice_bounds-pick_with-end c = ones_long _ _ c.num_bytes-n.ensures c.requires.asked.1

pub pick_with-requires : goal.pick_with-requires
pick_with-requires c = record {
  asked = (c.requires.asked.0, bits_are c.args.p c.args.s.pieces _ c.request-q.ensures);
  counts_held = c.requires.counts_held;
}

pub returns : goal.returns
unfolding request_ones each
returns c = c.pick_with.ensures
    ∙ ap₂ (λ (q : Request) (bs : List ℕ). pick_answered (picker_in c.args.live c.args.rows.now c.args.words.now c.args.cells.now)
    (request_with q bs []) (length c.args.out.now) (replicate 4352 0))
    c.request-q.ensures (ones_are _ _ c.num_bytes-n.ensures c.requires.asked.1)

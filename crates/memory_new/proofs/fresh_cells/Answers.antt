-- `fresh_cells` meets its contract: column by column. Assumes nothing.
use Prim.Native.Nat.{◌*◌}
use Rattle.memory_new.proofs.FillLaws.{part_filled, cells_fresh}
use native.Mathlib.Omega.{arith}
use Rattle.memory_new.proofs.fresh_cells.Goals as goal

pub returns : goal.returns
returns c =
    let n = c.args.n in
    let peers = part_filled 0 n 0 c.args.cells.now _ (omega arith) (omega (arith, c.requires.1)) (c.fill.ensures.after (λ y e. e)) in
    let states = part_filled n (2 * n) 4 _ _ (omega arith) (omega (arith, c.requires.1, peers.long)) (c.fill-2.ensures.after (λ y e. e)) in
    let priorities = part_filled (2 * n) (3 * n) 4 _ _ (omega arith) (omega (arith, c.requires.1, peers.long, states.long))
    (c.fill-3.ensures.after (λ y e. e)) in
    let flushed = part_filled (3 * n) (4 * n) 0 _ _ (omega arith)
    (omega (arith, c.requires.1, peers.long, states.long, priorities.long)) (c.fill-4.ensures.after (λ y e. e)) in
    cells_fresh _ _ _ _ _ _ peers states priorities flushed

-- `use_free` meets its contract. Assumes nothing.
use Rattle.pick_partial.proofs.AddingLaws.{use_aside, use_take, first_in}
use native.Mathlib.Omega.{arith}
use borrow.Author.Rules.{rules}
use Rattle.pick_partial.proofs.adding.use_free.Goals as goal

pub contiguous_above-above-requires : goal.contiguous_above-above-requires
contiguous_above-above-requires c = (omega (arith, c.requires.has_room.given), omega (arith, c.requires.plain_states.4))

pub set_aside-requires : goal.set_aside-requires
set_aside-requires c = record {
  plain_states = (c.requires.plain_states.0, c.requires.plain_states.1, first_in c.args.t _ _ _ c.first_used-first.ensures c.requires.plain_states.2, c.requires.plain_states.3);
  aside_in_bounds = (c.requires.has_room.backup, c.requires.has_room.wide);
}

pub returns-then-above-h : goal.returns-then-above-h
returns-then-above-h c = use_aside _ c.args.h c.args.t _ c.first_used-first.ensures _ c.contiguous_above-above.ensures c.if-above-h.true _ _ _ _
    c.set_aside.ensures

pub take_free-r-requires : goal.take_free-r-requires
take_free-r-requires c = record {
  plain_states = (c.requires.plain_states.0, c.requires.plain_states.1, first_in c.args.t _ _ _ c.first_used-first.ensures c.requires.plain_states.2, c.requires.plain_states.3);
  end_in_bounds = (c.requires.has_room.room, c.requires.has_room.given);
}

pub returns : goal.returns
returns c = use_take _ c.args.h c.args.t _ c.first_used-first.ensures _ c.contiguous_above-above.ensures c.if-above-h.false _ _ _ _
    c.take_free-r.ensures

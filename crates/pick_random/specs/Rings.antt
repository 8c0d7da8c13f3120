-- The random walk from its first piece, on the code's numbers. Assumes nothing.
use Rattle.std.specs.Prelude.{ℕ, ◌+◌, ◌≤◌, Bool, false, ◌||◌, List, eqb}
use Rattle.model.specs.Lists.{nth}
use Rattle.model.specs.Options.{rand_start_loops, rand_loops}
use Rattle.pick_state.specs.declared.numbers.PickNumbers.{PickNumbers}
use Rattle.pick_walk.specs.declared.walk.RandomWalk.{RandomWalk as Walk}

-- where it begins: nothing was done yet
unfoldable pub begun : (first : ℕ) (t : PickNumbers) → Walk
begun first t =
    record {
      work = t;
      place = first;
      back = false;
      seen = record { taken = t.end; aside = t.aside; ignored = 0 };
      over = false;
      marks = 0;
    }

-- one draw more
unfoldable pub drawn : (t : PickNumbers) → PickNumbers
drawn t =
    record { left = t.left; asked = t.asked; given = t.given; used = t.used + 1; flags = t.flags; end = t.end; aside = t.aside }

-- the walk is over, or no block is wanted
unfoldable pub walk_done : (x : Walk) → Bool
walk_done x = x.over || eqb x.work.left 0

-- 4,096 pieces passed over and as many blocks counted, for each of 33,587,200 turns
pub record RingCounted (loops loops' : List ℕ) : Type 0 where
  pub starts : nth 0 loops' rand_start_loops ≤ nth 0 loops rand_start_loops + 137573171200
  pub blocks : nth 0 loops' rand_loops ≤ nth 0 loops rand_loops + 137573171200

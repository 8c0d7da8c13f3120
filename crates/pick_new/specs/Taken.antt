-- The numbers of a pick after blocks of one piece. Assumes nothing.
use Rattle.std.specs.Prelude.{ℕ, ◌+◌, ◌-◌}
use Rattle.pick_state.specs.declared.numbers.PickNumbers.{PickNumbers}

-- n blocks more are appended, towards the run
unfoldable pub taken_numbers : (n : ℕ) (t : PickNumbers) → PickNumbers
taken_numbers n t =
    record {
      left = t.left - n;
      asked = t.asked;
      given = t.given + n;
      used = t.used;
      flags = t.flags;
      end = t.end + n;
      aside = t.aside;
    }

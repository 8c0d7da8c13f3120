-- A test on the numbers below one. Assumes nothing.
use Rattle.std.specs.Prelude.{ℕ, zero, suc, ◌+◌, Bool, true, ◌&&◌}
use Rattle.model.specs.Lists.{bit}

-- all pass
unfoldable pub all_below : (test : ℕ → Bool) (n : ℕ) → Bool
all_below test zero = true
all_below test (suc n) = all_below test n && test n

-- how many pass
unfoldable pub count_below : (test : ℕ → Bool) (n : ℕ) → ℕ
count_below test zero = 0
count_below test (suc n) = count_below test n + bit (test n)

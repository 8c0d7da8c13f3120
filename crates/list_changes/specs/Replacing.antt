-- The words of a list with one replaced. Assumes nothing.
use Rattle.std.specs.Prelude.{ℕ, List}
use Rattle.model.specs.Lists.{place_of, set_nth}

-- the words with w in the place of v
unfoldable pub replaced : (v w : ℕ) (ws : List ℕ) → List ℕ
replaced v w ws = set_nth (place_of v ws) w ws

-- What an export says: the struct of numbers that it answers reads as a public answer, and says nothing else. Assumes nothing.
use Rattle.std.specs.Prelude.{◌≡◌}

pub record Says {A B : Type 0} (writes : A → B) (reads : B → A) (P : A → Type 0) (r : B) : Type 0 where
  pub is : P (reads r)
  pub whole : r ≡ writes (reads r)

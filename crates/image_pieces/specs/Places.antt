-- Where the reader of a part of an image comes to, by what the definition's reader finds. Assumes nothing.
use Rattle.std.specs.Prelude.{ℕ, ◌≤◌, ◌≡◌, List, length, drop, Err, Ok, Result}
use Rattle.model.specs.image.Image.{Got, got, fault}

module _ {A : Type 0} where
  -- something was found, and the bytes from k on are left
  pub record Ended (found : Got A) (bytes : List ℕ) (k : ℕ) : Type 0 where
    pub value : A
    pub is : found ≡ got value (drop k bytes)
    pub within : k ≤ length bytes

  -- the record at k is at fault
  pub record Failed (found : Got A) (bytes : List ℕ) (k : ℕ) : Type 0 where
    pub is : found ≡ fault (drop k bytes)
    pub within : k ≤ length bytes

  -- one or the other
  unfoldable pub Went : (found : Got A) (bytes : List ℕ) (r : Result ℕ ℕ) → Type 0
  Went found bytes (Ok k) = Ended found bytes k
  Went found bytes (Err k) = Failed found bytes k

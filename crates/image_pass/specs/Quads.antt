-- Kind, state and num_peers of a block in one number. Assumes nothing.
use Rattle.std.specs.Prelude.{ℕ, zero, suc, ◌+◌, ◌*◌, ◌/◌, ◌%◌, ◌≤◌, ◌<◌, ◌≡◌, Bool, true, cond, ◌&&◌, List, length, get_or, eqb, leb, None, Option, Some}
use Rattle.model.specs.Lists.{bit}
use Rattle.image_bytes.specs.Put.{FieldRead}
use Rattle.image_pass.specs.declared.tally.Tally.{Tally}

-- a block, one of the four states, and not too many peers
unfoldable pub quad_ok : (q : ℕ) → Bool
quad_ok q = eqb (q / 262144) 256 && leb (q % 65536) 1000

-- the numbers of the block at a place, whose peer fits its flag
pub record BlockQuad (at : ℕ) (bytes : List ℕ) (q : ℕ) : Type 0 where
  pub kind : ℕ
  pub state : ℕ
  pub peers : ℕ
  pub has : ℕ
  pub peer : ℕ
  pub kind_read : FieldRead at 1 bytes kind
  pub state_read : FieldRead (at + 1) 1 bytes state
  pub peers_read : FieldRead (at + 2) 2 bytes peers
  pub has_read : FieldRead (at + 4) 1 bytes has
  pub peer_read : FieldRead (at + 5) 8 bytes peer
  pub is : q ≡ kind * 16777216 + (state * 65536 + peers)
  pub flag : has ≤ 1
  pub alone : cond (eqb has 0) peer 0 ≡ 0

-- those of so many blocks, where nothing was found wrong
pub record Gathered (start many : ℕ) (bytes before quads : List ℕ) (wrong : ℕ) : Type 0 where
  pub long : length quads ≡ length before
  pub each : wrong ≡ 0 → (j : ℕ) → j < many → BlockQuad (start + 13 * j) bytes (get_or quads j 0)

-- how many of the first n pass
unfoldable pub count_to : (n : ℕ) (test : ℕ → Bool) → ℕ
count_to zero test = 0
count_to (suc n) test = count_to n test + bit (test n)

-- by their numbers, those that are free and those that are requested
unfoldable pub free_in : (quads : List ℕ) (j : ℕ) → Bool
free_in quads j = eqb (get_or quads j 0 / 65536) 1024

unfoldable pub requested_in : (quads : List ℕ) (j : ℕ) → Bool
requested_in quads j = eqb (get_or quads j 0 / 65536) 1025

pub record QuadsWell (many : ℕ) (quads : List ℕ) (t : Tally) : Type 0 where
  pub fine : (j : ℕ) → j < many → quad_ok (get_or quads j 0) ≡ true
  pub free : t.free ≡ count_to many (free_in quads)
  pub requested : t.requested ≡ count_to many (requested_in quads)

unfoldable pub QuadsTold : (many : ℕ) (quads : List ℕ) (r : Option Tally) → Type 0
QuadsTold many quads (Some t) = QuadsWell many quads t
QuadsTold many quads None = Unit

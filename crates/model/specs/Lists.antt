-- Lists: what the definitions need beyond the library. Assumes nothing.
use Rattle.std.specs.Prelude.{ℕ, zero, suc, ◌+◌, ◌-◌, Bool, true, false, cond, ◌&&◌, ◌||◌, List, [], ◌∷◌, ◌++◌, length, get_or, set, eqb, leb}

-- 1 for a test that passes, 0 for one that does not
abbrev pub bit : (test : Bool) → ℕ
bit true = 1
bit false = 0

-- the lesser of two numbers
unfoldable pub least : (a b : ℕ) → ℕ
least a b = cond (leb a b) a b

-- n numbers, from k on
unfoldable pub from : (k n : ℕ) → List ℕ
from k zero = []
from k (suc n) = k ∷ from (suc k) n

-- the numbers from k up to and without `end`
unfoldable pub range : (k end : ℕ) → List ℕ
range k end = from k (end - k)

-- the same numbers, the last one first
unfoldable pub range_down : (k end : ℕ) → List ℕ
range_down k zero = []
range_down k (suc end) = cond (leb k end) (end ∷ range_down k end) []

module _ {A : Type 0} where
  -- how many pass the test
  unfoldable pub count : (test : A → Bool) (xs : List A) → ℕ
  count test [] = 0
  count test (x ∷ xs) = bit (test x) + count test xs

  -- those that pass the test
  unfoldable pub filter : (test : A → Bool) (xs : List A) → List A
  filter test [] = []
  filter test (x ∷ xs) = cond (test x) (x ∷ filter test xs) (filter test xs)

  -- each passes the test
  unfoldable pub every : (test : A → Bool) (xs : List A) → Bool
  every test [] = true
  every test (x ∷ xs) = test x && every test xs

  -- one passes the test
  unfoldable pub any : (test : A → Bool) (xs : List A) → Bool
  any test [] = false
  any test (x ∷ xs) = test x || any test xs

  -- the element at a place, or another where the list ends before
  unfoldable pub nth : (d : A) (l : List A) (i : ℕ) → A
  nth d l i = get_or l i d

  -- how many there are
  unfoldable pub len : (l : List A) → ℕ
  len l = length l

  -- the list with another element at a place
  unfoldable pub set_nth : (i : ℕ) (x : A) (l : List A) → List A
  set_nth i x l = set l i x

  -- the list without its element at a place
  unfoldable pub remove_nth : (n : ℕ) (xs : List A) → List A
  remove_nth n [] = []
  remove_nth zero (x ∷ xs) = xs
  remove_nth (suc n) (x ∷ xs) = x ∷ remove_nth n xs

  -- the last element, or another where there is none
  unfoldable pub last_or : (d : A) (xs : List A) → A
  last_or d [] = d
  last_or d (x ∷ xs) = last_or x xs

  -- one after another in the other order
  unfoldable pub reversed : (xs : List A) → List A
  reversed [] = []
  reversed (x ∷ xs) = reversed xs ++ (x ∷ [])

-- x is an element
unfoldable pub member : (n : ℕ) (ns : List ℕ) → Bool
member n ns = any (eqb n) ns

-- the place of x, or the length where it is none
unfoldable pub place_of : (n : ℕ) (ns : List ℕ) → ℕ
place_of n [] = 0
place_of n (m ∷ ms) = cond (eqb n m) 0 (suc (place_of n ms))

module _ {A B : Type 0} where
  -- what a function gives for each element
  unfoldable pub each : (f : A → B) (xs : List A) → List B
  each f [] = []
  each f (x ∷ xs) = f x ∷ each f xs

  -- what each element gives, one after another
  unfoldable pub concat_map : (parts : A → List B) (xs : List A) → List B
  concat_map parts [] = []
  concat_map parts (x ∷ xs) = parts x ++ concat_map parts xs

module _ {S : Type 0} where
  -- a phase after another: none where the work is done
  unfoldable pub unless : (test : Bool) (phase : S → S) (s : S) → S
  unless true phase s = s
  unless false phase s = phase s

  -- a phase where a condition holds
  unfoldable pub when : (test : Bool) (phase : S → S) (s : S) → S
  when true phase s = phase s
  when false phase s = s

  -- one phase where a condition holds, else another
  unfoldable pub branch : (test : Bool) (phase g : S → S) (s : S) → S
  branch true phase g s = phase s
  branch false phase g s = g s

module _ {S : Type 0} where
  -- at most n turns, and none once the work is done
  unfoldable pub repeat : (n : ℕ) (turn : S → S) (done : S → Bool) (s : S) → S
  repeat zero turn done s = s
  repeat (suc n) turn done s = unless (done s) (λ t. repeat n turn done (turn t)) s

module _ {A S : Type 0} where
  -- a step for each element
  unfoldable pub for_each : (step : A → S → S) (xs : List A) (s : S) → S
  for_each step [] s = s
  for_each step (x ∷ xs) s = for_each step xs (step x s)

  -- a walk over a list: a step for each element. The step that `halt` names is made, and none after it
  unfoldable pub walk_until : (step : A → S → S) (halt : A → S → Bool) (xs : List A) (s : S) → S
  walk_until step halt [] s = s
  walk_until step halt (x ∷ xs) s = unless (halt x s) (λ t. walk_until step halt xs t) (step x s)

  -- a walk up to the step after which the work is done
  unfoldable pub walk : (step : A → S → S) (done : S → Bool) (xs : List A) (s : S) → S
  walk step done xs s = walk_until step (λ x t. done (step x t)) xs s

-- ---- insertion sort, by a test that says whether one goes before another
module _ {A : Type 0} where
  -- x behind all that it does not go before
  unfoldable pub insert_by : (before : A → A → Bool) (x : A) (xs : List A) → List A
  insert_by before x [] = x ∷ []
  insert_by before x (y ∷ ys) = cond (before x y) (x ∷ y ∷ ys) (y ∷ insert_by before x ys)

  -- one after another put in; those of which neither goes before the other stay as they came
  unfoldable pub sort_by : (before : A → A → Bool) (xs : List A) → List A
  sort_by before xs = for_each (insert_by before) xs []

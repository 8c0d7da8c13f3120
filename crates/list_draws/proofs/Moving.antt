-- What `push_within` and `pull_within` make of the list, as the definition's moves on words. Assumes nothing.
use mathlib.Core.Path.{◌≡◌, sym, ap, ◌∙◌}
use mathlib.Core.List.{List, ◌∷◌, ◌++◌, append_assoc}
use Prim.Native.Nat.{ℕ, suc, ◌≤◌, ◌<◌}
use native.Mathlib.Omega.{arith}
use lib.ListN.{length, get_or, set, take, drop, length-append}
use lib.Seq.{slice, length-slice, length-take-le, set_at, drop-cons, take-set-le, take-set-lt, drop-set-lt, get_or-set_same}
use Rattle.model.specs.Lists.{nth}
use Rattle.model.specs.list.Order.{earlier, later, turn_right}
use Rattle.model.proofs.list.GroupTurns.{stirred_right, length_keys}
use Rattle.list_entries.specs.Words.{listed_rank}
use Rattle.list_moves.specs.Moves.{pushed, pulled}

-- w pushed in at `to`, over what stood at k
pub earlier-pushed : (to k w : ℕ) (l : List ℕ) → to ≤ k → k < length l → pushed to k w l ≡ earlier listed_rank to k (set l k w)
unfolding pushed earlier nth
earlier-pushed to k w l h le =
    let a : k < suc k = omega arith in
    let c : k ≤ k = omega arith in
    rw (take-set-le to l k w, take-set-le k l k w, drop-set-lt (suc k) l k w, get_or-set_same l k w 0)

length_right : (l : List ℕ) → length (turn_right listed_rank l) ≡ length l
length_right l = length_keys listed_rank l (turn_right listed_rank l) (stirred_right listed_rank l).keys

-- the groups between pulled over what stood at k, and w stored at `to`
pub later-pulled : (k to w : ℕ) (l : List ℕ) → k ≤ to → to < length l → set (pulled k to l) to w ≡ later listed_rank k to (set l k w)
unfolding pulled later nth
later-pulled k to w l h le =
    let turned = turn_right listed_rank (slice (suc k) (suc to) l) in
    let front = take k l ++ turned in
    let n : length front ≡ to =
    omega (
      arith,
      length-append (take k l) turned,
      length_right (slice (suc k) (suc to) l),
      length-slice (suc k) (suc to) l (omega arith),
      length-take-le k l (omega arith),
    ) in
    let a : k < suc k = omega arith in
    let c : k < suc to = omega arith in
    let d : k ≤ k = omega arith in
    let lk : k < length l = omega arith in
    ap (λ (m : List ℕ). set m to w)
    (ap (λ (m : List ℕ). take k l ++ (turned ++ m)) (drop-cons l to 0 le)
    ∙ sym (append_assoc (take k l) turned (get_or l to 0 ∷ drop (suc to) l)))
    ∙ set_at front (get_or l to 0) (drop (suc to) l) w to n
    ∙ append_assoc (take k l) turned (w ∷ drop (suc to) l)
    ∙ rw (
      take-set-le k l k w,
      take-set-lt (suc to) l k w,
      drop-set-lt (suc k) (take (suc to) l) k w,
      drop-set-lt (suc to) l k w,
      get_or-set_same l k w 0,
    )

-- One block more, in the output or among those set aside. Assumes nothing.
use mathlib.Core.Path.{◌≡◌, refl, ap, ap₂, ◌∙◌}
use mathlib.Core.List.{List, [], ◌∷◌, ◌++◌}
use Prim.Native.Nat.{ℕ, zero, suc, ◌+◌, ◌-◌, ◌*◌, ◌/◌, ◌%◌, ◌≤◌, ◌<◌}
use native.Mathlib.Numerals.{add-one}
use native.Mathlib.Nat.{le_of_suc-le-suc, not-suc-le-zero}
use native.Mathlib.Omega.{arith}
use lib.ListN.{length, set, take, drop, length-set, length-take}
use lib.Seq.{get_or-set_other}
use Rattle.model.specs.Lists.{each, len}
use Rattle.model.specs.pick.Blocks.{PieceBlock, piece_block, with_out, with_backup, shorter, took, put_aside}
use Rattle.pick_state.specs.declared.numbers.PickNumbers.{PickNumbers}
use Rattle.pick_state.specs.PickStates.{block_from, blocks_between, contiguous_of, state_of, OutDid, AsideDid}

-- ---- a word as a block
pub block_word : (i j : ℕ) → j < 65536 → block_from (i * 65536 + j) ≡ piece_block i j
unfolding block_from
block_word i j h =
    let a : (i * 65536 + j) / 65536 ≡ i = omega arith in
    let b : (i * 65536 + j) % 65536 ≡ j = omega arith in
    ap₂ piece_block a b

-- ---- one place more
front_more : (n : ℕ) (l : List ℕ) (w : ℕ) → n < length l → each block_from (take (suc n) (set l n w)) ≡ each block_from (take n l) ++ (block_from w ∷ [])
unfolding each
front_more n [] w h = absurd (not-suc-le-zero h)
front_more zero (x ∷ xs) w h = refl
front_more (suc n) (x ∷ xs) w h = ap (λ (m : List PieceBlock). block_from x ∷ m) (front_more n xs w (le_of_suc-le-suc h))

-- a block stored behind those that stand there
pub between_more : (start end : ℕ) (l : List ℕ) (w : ℕ) → start ≤ end → end < length l
    → blocks_between start (end + 1) (set l end w) ≡ blocks_between start end l ++ (block_from w ∷ [])
unfolding blocks_between
between_more zero end l w h k =
    let q : end + 1 - 0 ≡ suc end = omega arith in
    let z : end - 0 ≡ end = omega arith in
    rw (q, z) (front_more end l w k)
between_more (suc start) end [] w h k = absurd (not-suc-le-zero k)
between_more (suc start) zero (x ∷ xs) w h k = absurd (not-suc-le-zero h)
between_more (suc start) (suc end) (x ∷ xs) w h k =
    let q : suc end + 1 - suc start ≡ end + 1 - start = omega arith in
    let z : suc end - suc start ≡ end - start = omega arith in
    rw (q, z) (between_more start end xs w (le_of_suc-le-suc h) (le_of_suc-le-suc k))

-- how many stand there
pub each-length : (l : List ℕ) → length (each block_from l) ≡ length l
unfolding each
each-length [] = refl
each-length (x ∷ xs) = ap suc (each-length xs)

drop-length : (n : ℕ) (l : List ℕ) → length (drop n l) ≡ length l - n
drop-length zero l = let e : length l - 0 ≡ length l = omega arith in rw e refl
drop-length (suc n) [] = omega arith
drop-length (suc n) (x ∷ xs) = let e : suc (length xs) - suc n ≡ length xs - n = omega arith in rw e (drop-length n xs)

pub between_length : (start end : ℕ) (l : List ℕ) → end ≤ length l → len (blocks_between start end l) ≡ end - start
unfolding blocks_between len
between_length start end l h =
    each-length (take (end - start) (drop start l))
    ∙ (length-take (end - start) (drop start l) ∙ short (end - start) (length (drop start l)) (omega (arith, drop-length start l)))
  where
    short : (n m : ℕ) → n ≤ m → Prim.Native.Nat.min n m ≡ n
    short n m k = omega arith

-- ---- a block appended
pub took_did : (t r : PickNumbers) (out : List ℕ) (i j w : ℕ) → t.end < length out → j < 256 → w ≡ i * 65536 + j → r.left ≡ t.left - 1
    → r.asked ≡ t.asked → r.given ≡ t.given + 1 → r.used ≡ t.used → r.flags ≡ t.flags → r.end ≡ t.end + 1 → r.aside ≡ t.aside
    → OutDid (took i j) 1 t r out (set out t.end w)
unfolding state_of took with_out shorter contiguous_of
took_did t r out i j w o h ew el ea eg eu ef ee es =
    record {
      is = λ start d aside ignored loops k. λ m. record {
        picker = d;
        used = eu m;
        left = el m;
        contiguous = record { asked = ea m; given = (eg ∙ add-one t.given) m };
        out = (ap (λ (e : ℕ). blocks_between start e (set out t.end w)) ee ∙ (between_more start t.end out w k o
            ∙ ap (λ (x : PieceBlock). blocks_between start t.end out ++ (x ∷ [])) (ap block_from ew ∙ block_word i j (omega arith)))) m;
        backup = blocks_between 0 (es m) aside;
        ignored = ignored;
        flags = ef m;
        loops = loops;
      };
      kept = record {
        rises = omega arith;
        long = length-set out t.end w;
        others = λ k n. get_or-set_other out t.end k w 0 (λ e. n (omega arith) (omega arith));
      };
      few = omega arith;
      given = omega arith;
    }

-- ---- a block set aside
pub aside_did : (t r : PickNumbers) (aside : List ℕ) (i j w : ℕ) → t.aside < length aside → j < 256 → w ≡ i * 65536 + j → r.left ≡ t.left
    → r.asked ≡ t.asked → r.given ≡ t.given → r.used ≡ t.used → r.flags ≡ t.flags → r.end ≡ t.end → r.aside ≡ t.aside + 1
    → AsideDid (put_aside i j) 1 t r aside (set aside t.aside w)
unfolding state_of put_aside with_backup contiguous_of
aside_did t r aside i j w o h ew el ea eg eu ef ee es =
    record {
      is = λ start d out ignored loops. λ m. record {
        picker = d;
        used = eu m;
        left = el m;
        contiguous = record { asked = ea m; given = eg m };
        out = blocks_between start (ee m) out;
        backup = (ap (λ (e : ℕ). blocks_between 0 e (set aside t.aside w)) es ∙ (between_more 0 t.aside aside w (omega arith) o
            ∙ ap (λ (x : PieceBlock). blocks_between 0 t.aside aside ++ (x ∷ [])) (ap block_from ew ∙ block_word i j (omega arith)))) m;
        ignored = ignored;
        flags = ef m;
        loops = loops;
      };
      long = length-set aside t.aside w;
      end = ee;
      few = omega arith;
    }

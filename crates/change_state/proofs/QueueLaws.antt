-- The queue that a cell means, and whether a piece is left in its queue. Assumes nothing.
use Rattle.std.specs.Prelude.{ok_or}
use Rattle.std.specs.Result.{result_unwrap_or}
use mathlib.Core.Path.{◌≡◌, refl, sym, ap₂, ◌∙◌}
use mathlib.Core.Bool.{Bool, true, ◌||◌, or-true, or-false}
use mathlib.Core.Logic.{◌≢◌}
use mathlib.Core.List.{List}
use Prim.Native.Nat.{ℕ, zero, suc, ◌<◌}
use native.Mathlib.Omega.{arith}
use lib.Dec.{eqb}
use lib.ListN.{get_or-eq_default}
use borrow.Author.Tests.{eq-eqb, ne_eqb}
use denote.Enum.Bare.{sameb}
use denote.Enum.Declared.{tag_of}
use Rattle.types.specs.contracts.queue.DownloadQueue.{the_type}
use Rattle.types.specs.declared.queue.DownloadQueue.{DownloadQueue}
use Rattle.types.specs.declared.queue.DownloadQueue.TheVariants.{Downloading, Full, Finished, ZeroPrio, Open, DownloadingReverse}
use Rattle.types.specs.declared.queue.DownloadQueue.TheVariants.{FullReverse}
use Rattle.types.specs.declared.unknown.UnknownNumber.{UnknownNumber}
use Rattle.types.specs.Numbers.{case_with}
use Rattle.types.specs.Queue.{queue_number, queues, queue_with_number}
use Rattle.model.specs.Lists.{nth}
use Rattle.model.specs.State.{piece_at, same_queue, is_open}
use Rattle.memory_layout.specs.declared.shape.Shape.{Shape}
use Rattle.memory_layout.specs.Decode.{piece_cell, queue_from}
use Rattle.memory_layout.proofs.Meanings.{state_is}
use Rattle.memory_fields.specs.Reading.{CellsSay}

-- the queue with a number
pub queue_is : (v k : ℕ) (q : DownloadQueue) → v ≡ k → queue_from k ≡ q → q ≡ queue_from v
queue_is v k q e f = rw e (sym f)

-- a number that is no other queue's is read as Open
pub queue_other : (v : ℕ) → v ≢ 0 → v ≢ 1 → v ≢ 2 → v ≢ 3 → v ≢ 5 → v ≢ 6 → Open ≡ queue_from v
unfolding queue_from nth
queue_other zero a b c d e f = absurd (a refl)
queue_other (suc zero) a b c d e f = absurd (b refl)
queue_other (suc (suc zero)) a b c d e f = absurd (c refl)
queue_other (suc (suc (suc zero))) a b c d e f = absurd (d refl)
queue_other (suc (suc (suc (suc zero)))) a b c d e f = refl
queue_other (suc (suc (suc (suc (suc zero))))) a b c d e f = absurd (e refl)
queue_other (suc (suc (suc (suc (suc (suc zero)))))) a b c d e f = absurd (f refl)
queue_other (suc (suc (suc (suc (suc (suc (suc v))))))) a b c d e f = refl

-- a number past the last queue's is read as Open
pub queue_past : (v : ℕ) → 6 < v → Open ≡ queue_from v
unfolding queue_from nth
queue_past v h = sym (get_or-eq_default queues Open {n = v} h)

-- any other as the queue that has it
pub queue_named : (n : ℕ) (e : UnknownNumber) → result_unwrap_or (ok_or (queue_with_number n) e) Open ≡ queue_from n
unfolding queue_with_number case_with queue_from nth
queue_named zero e = refl
queue_named (suc zero) e = refl
queue_named (suc (suc zero)) e = refl
queue_named (suc (suc (suc zero))) e = refl
queue_named (suc (suc (suc (suc zero)))) e = refl
queue_named (suc (suc (suc (suc (suc zero))))) e = refl
queue_named (suc (suc (suc (suc (suc (suc zero)))))) e = refl
queue_named (suc (suc (suc (suc (suc (suc (suc v))))))) e =
    let n = suc (suc (suc (suc (suc (suc (suc v)))))) in
    rw (
      ne_eqb 0 n (omega arith),
      ne_eqb 1 n (omega arith),
      ne_eqb 2 n (omega arith),
      ne_eqb 3 n (omega arith),
      ne_eqb 4 n (omega arith),
      ne_eqb 5 n (omega arith),
      ne_eqb 6 n (omega arith),
    )

-- read from its cell
pub queue_read : (s : Shape) (cells : List ℕ) (i : ℕ) → i < s.pieces → (q : DownloadQueue) (v : ℕ) → q ≡ queue_from v
    → v ≡ piece_cell cells s.pieces 1 i
    → CellsSay s cells (λ d. (piece_at d i).state) q
queue_read s cells i h q v e f =
    record { is = λ records words r. (rw f at e) ∙ sym (state_is s records words cells r i h) }

-- ---- left in its queue
-- by the queues' numbers
module _ (q current : DownloadQueue) (n : ℕ) (e : n ≡ queue_number q) where
  -- Open says so
  pub left_open : n ≡ 4 → true ≡ (same_queue q current || is_open q)
  unfolding same_queue is_open
  left_open h = rw (← e, eq-eqb n 4 h, or-true)

  -- any other only where it is the piece's own
  pub left_same : (m : ℕ) → m ≡ queue_number current → n ≢ 4 → eqb n m ≡ (same_queue q current || is_open q)
  unfolding same_queue is_open
  left_same m f h = rw (← e, ← f, ne_eqb n 4 h, or-false)

number_tag : (q : DownloadQueue) → tag_of the_type q ≡ queue_number q
number_tag Downloading = refl
number_tag Full = refl
number_tag Finished = refl
number_tag ZeroPrio = refl
number_tag Open = refl
number_tag DownloadingReverse = refl
number_tag FullReverse = refl

-- an equality test is that of the numbers
pub same_tags : (q other : DownloadQueue) → sameb the_type q other ≡ same_queue q other
unfolding same_queue
same_tags q other = ap₂ eqb (number_tag q) (number_tag other)

-- it is the piece's own, or Open, which says so
pub left : (q current : DownloadQueue) (a b : Bool) → a ≡ sameb the_type q current → b ≡ sameb the_type q Open
    → (a || b) ≡ (same_queue q current || is_open q)
unfolding is_open
left q current a b e f = ap₂ (λ (x y : Bool). x || y) (e ∙ same_tags q current) (f ∙ same_tags q Open)

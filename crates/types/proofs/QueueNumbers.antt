-- Queues and their numbers give each other back. Assumes nothing.
use Rattle.std.specs.Prelude.{None, Some}
use mathlib.Core.Path.{◌≡◌, refl}
use Prim.Native.Nat.{ℕ}
use native.Mathlib.Omega.{arith}
use Rattle.types.specs.Numbers.{case_with}
use Rattle.types.specs.Queue.{queue_number, queues, queue_with_number}
use Rattle.types.specs.declared.queue.DownloadQueue.{DownloadQueue}
use Rattle.types.specs.declared.queue.DownloadQueue.TheVariants.{Downloading, Full, Finished, ZeroPrio, Open, DownloadingReverse}
use Rattle.types.specs.declared.queue.DownloadQueue.TheVariants.{FullReverse}
use Rattle.types.proofs.Numbers.{RoundTrip, round_trip}

same : (p q : DownloadQueue) → Some p ≡ Some q → p ≡ q
same p q e = cc

apart : (q : DownloadQueue) → None ≡ Some q → ⊥
apart q e = let z : ◌≡◌ {A = ℕ} 0 1 = cc in omega arith

back : (q : DownloadQueue) → queue_with_number (queue_number q) ≡ Some q
unfolding queue_with_number case_with
back Downloading = refl
back Full = refl
back Finished = refl
back ZeroPrio = refl
back Open = refl
back DownloadingReverse = refl
back FullReverse = refl

pub queue_numbers : RoundTrip queue_number Some None queue_with_number
unfolding queue_with_number
queue_numbers = round_trip queue_number Some None same apart queues back

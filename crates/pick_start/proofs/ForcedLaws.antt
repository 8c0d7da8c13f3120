-- The forcing rule from the rows: the partials counted, and where they need not be. Assumes nothing.
use mathlib.Core.Path.{◌≡◌, refl, sym, ap, ap₂, ◌∙◌}
use mathlib.Core.Bool.{Bool, true, false, ◌||◌}
use mathlib.Core.List.{List, [], ◌∷◌}
use Prim.Native.Nat.{ℕ, suc, ◌+◌, ◌*◌, ◌/◌, ◌≤◌}
use native.Mathlib.Nat.{mul-le-mul}
use native.Mathlib.Omega.{arith}
use lib.Dec.{eqb, ltb}
use lib.ListN.{length, length-append}
use borrow.Author.Tests.{le-ltb}
use Rattle.types.specs.declared.queue.DownloadQueue.{DownloadQueue}
use Rattle.types.specs.declared.queue.DownloadQueue.TheVariants.{Downloading}
use Rattle.types.specs.Queue.{queue_number}
use Rattle.model.specs.Lists.{bit, each, len}
use Rattle.model.specs.State.{DownloadingPiece, same_queue, blocks_per_piece}
use Rattle.model.specs.change.Partials.{in_queue}
use Rattle.model.specs.pick.Blocks.{PickRequest}
use Rattle.model.specs.pick.Pick.{forced, is_forced}
use Rattle.memory_records.specs.Rows.{records_in}
use Rattle.memory_layout.specs.declared.shape.Shape.{Shape}
use Rattle.memory_layout.specs.Changes.{partial_in}
use Rattle.memory_rows.specs.Lookup.{LiveRows, picker_in}
use Rattle.memory_rows.proofs.RisingLaws.{live_number}
use Rattle.memory_queues.specs.Queues.{queue_in, queue_held, places_below, places_in, InQueues}
use Rattle.memory_queues.proofs.PlaceLaws.{below_in, below_out, below_none, below_few, below_same, places_queue}
use Rattle.memory_queues.proofs.StandLaws.{held_is}
use Rattle.pick_free.proofs.FreeLaws.{blocks_each}
use Rattle.pick_start.specs.Starting.{ForcedSays}

-- ---- the loop
-- one partial more
pub counted_next : (f : ℕ → DownloadQueue) (n k queue r : ℕ) → n ≡ len (places_below f Downloading k) → queue ≡ queue_number (f k)
    → r ≡ n + bit (eqb queue 0) → r ≡ len (places_below f Downloading (k + 1))
unfolding same_queue len
counted_next f n k queue r en eq er =
    er ∙ ap₂ (λ (m : ℕ) (x : ℕ). m + bit (eqb x 0)) en eq ∙ go (same_queue (f k) Downloading) refl
  where
    go : (b : Bool) → same_queue (f k) Downloading ≡ b
        → len (places_below f Downloading k) + bit (eqb (queue_number (f k)) 0) ≡ len (places_below f Downloading (k + 1))
    go true e =
        ap (λ (x : Bool). len (places_below f Downloading k) + bit x) e
        ∙ omega (arith, ap (λ (l : List ℕ). length l) (below_in f Downloading k e), length-append (places_below f Downloading k) (k ∷ []))
    go false e =
        ap (λ (x : Bool). len (places_below f Downloading k) + bit x) e
        ∙ omega (arith, ap (λ (l : List ℕ). length l) (below_out f Downloading k e))

pub counted_none : (f : ℕ → DownloadQueue) → 0 ≡ len (places_below f Downloading 0)
unfolding len
counted_none f = sym (ap (λ (l : List ℕ). len l) (below_none f Downloading))

-- ---- the rule
-- blocks of partials are few
pub product_small : (n b : ℕ) → n ≤ 512 → b ≤ 256 → n * b ≤ 131072
product_small n b f g = let m : n * b ≤ 512 * 256 = mul-le-mul f g in omega arith

each_long : {A : Type 0} (f : ℕ → A) (l : List ℕ) → len (each f l) ≡ len l
unfolding each len
each_long f [] = refl
each_long f (x ∷ l) = ap suc (each_long f l)

module _ (s : Shape) (live : ℕ) (rows cells : List ℕ) (h : InQueues s live rows cells) where
  abbrev held : ℕ → DownloadQueue
  held = queue_held cells rows s.pieces

  -- as many as the definition's queue has
  queue_long : (words : List ℕ) → LiveRows s live rows words cells
      → len (places_below held Downloading live) ≡ len (in_queue Downloading (picker_in live rows words cells))
  unfolding places_in
  queue_long words g =
      let d = picker_in live rows words cells in
      ap (λ (l : List ℕ). len l) (below_same held (queue_in d) Downloading live
      (λ k l. held_is s live rows words cells g k l (h.there k l)))
      ∙ ap (λ (m : ℕ). len (places_below (queue_in d) Downloading m)) (sym (live_number s live rows words cells g))
      ∙ sym (each_long (partial_in d) (places_in Downloading d)) ∙ ap (λ (l : List DownloadingPiece). len l) (places_queue Downloading d)

  rule_is : (words : List ℕ) → LiveRows s live rows words cells → (a : PickRequest) (peers : ℕ) → a.peers ≡ peers
      → forced (len (places_below held Downloading live)) s.blocks peers ≡ is_forced (picker_in live rows words cells) a
  unfolding is_forced
  rule_is words g a peers e =
      let d = picker_in live rows words cells in
      ap₂ (λ (n b : ℕ). forced n b peers) (queue_long words g) (sym (blocks_each s (records_in live rows) words cells g.bounds))
      ∙ ap (forced (len (in_queue Downloading d)) (blocks_per_piece d)) (sym e)

  -- counted
  pub forced_counted : (peers n most : ℕ) → n ≡ len (places_below held Downloading live) → most ≡ peers * 3 / 2 → (r : Bool)
      → r ≡ (ltb most n || ltb 2048 (n * s.blocks)) → ForcedSays s live rows cells peers r
  unfolding forced
  forced_counted peers n most en em r er = record {
    is = λ words g a e. er ∙ ap₂ (λ (m k : ℕ). ltb m k || ltb 2048 (k * s.blocks)) em en ∙ rule_is words g a peers e;
  }

  -- all partials together are too few
  pub forced_none : (peers : ℕ) → live ≤ peers * 3 / 2 → live * s.blocks ≤ 2048 → ForcedSays s live rows cells peers false
  unfolding forced
  forced_none peers a b =
      let n = len (places_below held Downloading live) in
      let few = below_few held Downloading live in
      record {
        is = λ words g x e.
            sym (ap₂ (λ (u v : Bool). u || v) (le-ltb (peers * 3 / 2) n (omega arith)) (le-ltb 2048 (n * s.blocks) (less n few b)))
            ∙ rule_is words g x peers e;
      }
    where
      less : (n : ℕ) → n ≤ live → live * s.blocks ≤ 2048 → n * s.blocks ≤ 2048
      less n f g = let m : n * s.blocks ≤ live * s.blocks = mul-le-mul f (omega arith) in omega arith

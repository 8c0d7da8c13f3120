-- The Full pieces that a peer has, by the rows. Assumes nothing.
use mathlib.Core.Path.{◌≡◌, sym, ap, ap₂, ◌∙◌}
use mathlib.Core.Bool.{Bool, ◌&&◌}
use mathlib.Core.List.{List}
use Prim.Native.Nat.{ℕ, ◌+◌, ◌≤◌, ◌<◌}
use native.Mathlib.Omega.{arith}
use lib.Dec.{eqb}
use lib.ListN.{length, get_or, set, take, length-take, length-set}
use lib.Seq.{take-take, take_all, get_or-take, length-take-le}
use Rattle.types.specs.declared.queue.DownloadQueue.TheVariants.{Full}
use Rattle.types.specs.Queue.{queue_number}
use Rattle.model.specs.Lists.{bit, from, each, filter}
use Rattle.model.specs.State.{DownloadingPiece, same_queue}
use Rattle.model.specs.pick.Blocks.{has_bit}
use Rattle.model.specs.pick.Pick.{full_partials}
use Rattle.memory_layout.specs.declared.shape.Shape.{Shape}
use Rattle.memory_layout.specs.Changes.{partial_in}
use Rattle.memory_rows.specs.Lookup.{LiveRows, picker_in}
use Rattle.memory_rows.proofs.RisingLaws.{live_number, live-piece}
use Rattle.memory_queues.specs.Queues.{queue_in, queue_held, places_below, places_in, InQueues}
use Rattle.memory_queues.proofs.PlaceLaws.{places_queue}
use Rattle.memory_queues.proofs.StandLaws.{held_is}
use Rattle.pick_state.specs.declared.request.PickRequest.{PickRequest}
use Rattle.pick_state.specs.Requests.{request_of}
use Rattle.pick_append.proofs.RowLaws.{Gathered, gather_next, gather_end}
use Rattle.pick_busy.specs.Full.{FullRow}
use Rattle.pick_busy.proofs.ListLaws.{filter_below, filter_both, filter_low, each-filter, each-take}

-- partial k is Full and the peer has it, by its row
unfoldable pub full_at : (s : Shape) (rows cells : List ℕ) (q : PickRequest) (bytes : List ℕ) (k : ℕ) → Bool
full_at s rows cells q bytes k = eqb (queue_number (queue_held cells rows s.pieces k)) 1 && has_bit (request_of q bytes) (get_or rows k 0)

module _ (s : Shape) (live : ℕ) (rows cells : List ℕ) (q : PickRequest) (bytes : List ℕ) (h : InQueues s live rows cells) where
  -- by the picker
  test_is : (words : List ℕ) → LiveRows s live rows words cells → (k : ℕ) → k < live
      → full_at s rows cells q bytes k
      ≡ (same_queue (queue_in (picker_in live rows words cells) k) Full
      && has_bit (request_of q bytes) (partial_in (picker_in live rows words cells) k).piece)
  unfolding full_at same_queue
  test_is words g k l =
      ap₂ (λ x y. eqb (queue_number x) 1 && has_bit (request_of q bytes) y) (held_is s live rows words cells g k l (h.there k l))
      (sym (live-piece s live rows words cells g k l))

  places_are : (words : List ℕ) → LiveRows s live rows words cells
      → each (partial_in (picker_in live rows words cells)) (take 200 (filter (full_at s rows cells q bytes) (from 0 live)))
      ≡ full_partials (request_of q bytes) (picker_in live rows words cells)
  unfolding full_partials places_in places_below
  places_are words g =
      let d = picker_in live rows words cells in
      let a = request_of q bytes in
      let t : ℕ → Bool = λ k. same_queue (queue_in d k) Full in
      let u : ℕ → Bool = λ k. has_bit a (partial_in d k).piece in
      each-take (partial_in d) 200 (filter (full_at s rows cells q bytes) (from 0 live))
      ∙ ap (λ (l : List ℕ). take 200 (each (partial_in d) l)) (filter_below (full_at s rows cells q bytes) (λ k. t k && u k) 0 live
      (λ k x y. test_is words g k (omega arith)) ∙ sym (filter_both t u (from 0 live)))
      ∙ ap (take 200) (each-filter (partial_in d) (λ (x : DownloadingPiece). has_bit a x.piece) (filter t (from 0 live)))
      ∙ ap (λ (m : ℕ). take 200 (filter (λ (x : DownloadingPiece). has_bit a x.piece) (each (partial_in d) (filter t (from 0 m)))))
      (sym (live_number s live rows words cells g))
      ∙ ap (λ (l : List DownloadingPiece). take 200 (filter (λ (x : DownloadingPiece). has_bit a x.piece) l)) (places_queue Full d)

  -- the first of a row that has them all
  module _ (n : ℕ) (row : List ℕ) (e : take n row ≡ filter (full_at s rows cells q bytes) (from 0 live)) (few : n ≤ live) (long : length row ≡ 512) where
    cut : (r : ℕ) → take r row ≡ take 200 (take n row) → r ≤ n → r ≤ 200 → FullRow s live rows cells q bytes r row
    cut r f l m = record {
      is = λ words g. ap (each (partial_in (picker_in live rows words cells))) (f ∙ ap (take 200) e) ∙ places_are words g;
      places = record {
        few = let b = h.few in omega arith;
        low = λ j i.
            let b = h.few in
            let w = filter (full_at s rows cells q bytes) (from 0 live) in
            let x : length w ≡ n = ap length (sym e) ∙ length-take-le n row (omega arith) in
            let y : get_or row j 0 ≡ get_or w j 0 = sym (get_or-take n row j 0 (omega arith)) ∙ ap (λ (v : List ℕ). get_or v j 0) e in
            let z = filter_low (full_at s rows cells q bytes) 0 live j (omega arith) in
            omega arith;
        long = long;
      };
      few = m;
    }

    pub full_cut : 200 < n → FullRow s live rows cells q bytes 200 row
    full_cut l = cut 200 (sym (take-take 200 n row (omega arith))) (omega arith) (omega arith)

    pub full_whole : n ≤ 200 → FullRow s live rows cells q bytes n row
    full_whole l =
        cut n (sym (take_all 200 (take n row) (let x = length-take n row in omega arith))) (omega arith) l

-- ---- the loop
pub full_says : (s : Shape) (rows cells : List ℕ) (q : PickRequest) (bytes : List ℕ) (k queue : ℕ)
    → queue ≡ queue_number (queue_held cells rows s.pieces k) → (i : ℕ) → i ≡ get_or rows k 0 → (has : Bool) → has ≡ has_bit (request_of q bytes) i
    → (eqb queue 1 && has) ≡ (eqb (queue_number (queue_held cells rows s.pieces k)) 1 && has_bit (request_of q bytes) (get_or rows k 0))
full_says s rows cells q bytes k queue eq i ei has eh =
    ap₂ (λ (n : ℕ) (t : Bool). eqb n 1 && t) eq (eh ∙ ap (has_bit (request_of q bytes)) ei)

module _ (s : Shape) (live : ℕ) (rows cells : List ℕ) (q : PickRequest) (bytes : List ℕ) where
  pub full_next : InQueues s live rows cells → (k n : ℕ) (row : List ℕ) → Gathered (full_at s rows cells q bytes) live k n row → length row ≡ 512 → k < live
      → (full : Bool) → full ≡ (eqb (queue_number (queue_held cells rows s.pieces k)) 1 && has_bit (request_of q bytes) (get_or rows k 0))
      → (row' : List ℕ) → row' ≡ set row n k → (n' : ℕ) → n' ≡ n + bit full
      → Gathered (full_at s rows cells q bytes) live (k + 1) n' row' × (length row' ≡ 512)
  unfolding full_at
  full_next h k n row g l b full e row' er n' en =
      let few = g.few in
      let most = h.few in (
        rw er (gather_next (full_at s rows cells q bytes) live k n row g b (omega arith) full e n' en),
        ap length er ∙ length-set row n k ∙ l,
      )

  pub full_end : (k n : ℕ) (row : List ℕ) → Gathered (full_at s rows cells q bytes) live k n row → live ≤ k
      → take n row ≡ filter (full_at s rows cells q bytes) (from 0 live)
  full_end k n row g h = gather_end (full_at s rows cells q bytes) live k n row g h

-- The partials that a pick may take from, by the rows: partial k by its row, and one pass over all. Assumes nothing.
use mathlib.Core.Path.{◌≡◌, sym, ap, ap₂, ◌∙◌}
use mathlib.Core.Bool.{Bool, true, false, not, ◌&&◌}
use mathlib.Core.List.{List, [], ◌∷◌}
use Prim.Native.Nat.{ℕ, ◌+◌, ◌/◌, ◌%◌, ◌≤◌, ◌<◌}
use native.Mathlib.Omega.{arith}
use lib.Dec.{eqb}
use lib.ListN.{length, get_or, set, take, length-set, length-append}
use lib.Seq.{get_or-take, length-take-le}
use Rattle.types.specs.declared.queue.DownloadQueue.{DownloadQueue}
use Rattle.types.specs.declared.queue.DownloadQueue.TheVariants.{Downloading}
use Rattle.types.specs.Queue.{queue_number}
use Rattle.model.specs.Lists.{bit, from, filter, each, len}
use Rattle.model.specs.Bep3.{bit_of}
use Rattle.model.specs.State.{Picker, same_queue}
use Rattle.model.specs.change.Partials.{in_queue}
use Rattle.model.specs.pick.Blocks.{PickRequest, is_piece_free}
use Rattle.model.specs.pick.Pick.{usable}
use Rattle.memory_records.specs.declared.record.DownloadingPiece.{DownloadingPiece as Record}
use Rattle.memory_records.specs.Rows.{row_at, records_in}
use Rattle.memory_layout.specs.declared.shape.Shape.{Shape}
use Rattle.memory_layout.specs.Changes.{partial_in}
use Rattle.memory_fields.specs.Reading.{CellsSay}
use Rattle.memory_rows.specs.Lookup.{picker_in}
use Rattle.memory_queues.specs.Queues.{queue_in, queue_held, places_below, places_in}
use Rattle.memory_queues.proofs.PlaceLaws.{below_in, below_out, below_few, below_none, places_queue}
use Rattle.memory_queues.proofs.StandLaws.{held_is}
use Rattle.ask_picker.specs.Asked.{Asked}
use Rattle.ask_picker.proofs.AskedLaws.{asked_rows, asked_queues}
use Rattle.pick_state.specs.declared.request.PickRequest.{PickRequest as Request}
use Rattle.pick_state.specs.Requests.{request_of}
use Rattle.pick_partial.proofs.PartialLaws.{this-piece, this-locked}
use Rattle.pick_append.proofs.RowLaws.{Gathered, gather_start, gather_next, gather_end}
use Rattle.pick_busy.proofs.ListLaws.{filter_both, filter_low, each-filter, each-length}
use Rattle.pick_scan.specs.Scans.{found_at, climbs, Scanned}
use Rattle.pick_scan.proofs.PlaceLaws.{climbs-filter}

-- ---- one partial
module _ (s : Shape) (live : ℕ) (rows words cells : List ℕ) (g : Asked s live rows words cells) (k : ℕ) (h : k < live) where
  abbrev d : Picker
  d = picker_in live rows words cells

  pub downloading_is : (queue : ℕ) → queue ≡ queue_number (queue_held cells rows s.pieces k)
      → eqb queue 0 ≡ same_queue (queue_in d k) Downloading
  unfolding same_queue
  downloading_is queue e =
      ap (λ (n : ℕ). eqb n 0) e
      ∙ ap (λ (x : DownloadQueue). eqb (queue_number x) 0)
      (held_is s live rows words cells (asked_rows s live rows words cells g) k h ((asked_queues s live rows words cells g).there k h))

  pub usable_is : (q : Request) (bytes : List ℕ) (x : Record) → x ≡ row_at rows k → (i : ℕ) → i ≡ x.index → (free : Bool)
      → CellsSay s cells (λ v. is_piece_free (request_of q bytes) v i) free
      → (free && not (eqb (x.flags / 2 % 2) 1)) ≡ usable (request_of q bytes) d (partial_in d k)
  unfolding usable bit_of
  usable_is q bytes x e i f free c =
      ap₂ (λ (b : Bool) (n : ℕ). b && not (eqb (n / 2 % 2) 1))
      (c.is (records_in live rows) words g.stands.bounds ∙ ap (is_piece_free (request_of q bytes) d)
      (f ∙ ap (λ (y : Record). y.index) e ∙ sym (this-piece s live rows words cells g k h))) (ap (λ (y : Record). y.flags) e)
      ∙ ap (λ (b : Bool). is_piece_free (request_of q bytes) d (partial_in d k).piece && not b)
      (sym (this-locked s live rows words cells g k h))

-- ---- the pass over all
-- those below k are in the row, and those of the queue are counted
pub record Scanning (a : PickRequest) (d : Picker) (live k n downloading : ℕ) (row : List ℕ) : Type 0 where
  pub gathered : Gathered (found_at a d) live k n row
  pub counted : downloading ≡ len (places_below (queue_in d) Downloading k)
  pub long : length row ≡ 512

module _ (a : PickRequest) (d : Picker) (live : ℕ) where
  pub scan_start : (row : List ℕ) → length row ≡ 512 → Scanning a d live 0 0 0 row
  unfolding len
  scan_start row l =
      record { gathered = gather_start (found_at a d) live row; counted = ap length (sym (below_none (queue_in d) Downloading)); long = l }

  pub counted_few : (k n downloading : ℕ) (row : List ℕ) → Scanning a d live k n downloading row → (downloading ≤ k) × (n ≤ k)
  counted_few k n downloading row g = (omega (arith, g.counted, below_few (queue_in d) Downloading k), g.gathered.few)

  count_next : (k m : ℕ) → m ≡ len (places_below (queue_in d) Downloading k) → (listed : Bool) → same_queue (queue_in d k) Downloading ≡ listed
      → m + bit listed ≡ len (places_below (queue_in d) Downloading (k + 1))
  unfolding len
  count_next k m e true f =
      sym (ap length (below_in (queue_in d) Downloading k f) ∙ length-append (places_below (queue_in d) Downloading k) (k ∷ [])
      ∙ ap (λ (x : ℕ). x + 1) (sym e))
  count_next k m e false f =
      sym (ap length (below_out (queue_in d) Downloading k f) ∙ sym e ∙ none m)
    where
      none : (x : ℕ) → x ≡ x + 0
      none x = omega arith

  pub scan_next : (k n m : ℕ) (row : List ℕ) → Scanning a d live k n m row → k < live → live ≤ 512 → (listed : Bool)
      → listed ≡ same_queue (queue_in d k) Downloading → (may : Bool) → may ≡ usable a d (partial_in d k)
      → (row' : List ℕ) → row' ≡ set row n k
      → (n' : ℕ) → n' ≡ n + bit (listed && may) → (m' : ℕ) → m' ≡ m + bit listed → Scanning a d live (k + 1) n' m' row'
  unfolding found_at
  scan_next k n m row g h b listed el may eu row' er n' en m' em =
      let few = g.gathered.few in
      let long = g.long in
      record {
        gathered = rw er (gather_next (found_at a d) live k n row g.gathered h (omega arith) (listed && may)
            (ap₂ (λ (x y : Bool). x && y) el eu) n' en);
        counted = em ∙ count_next k m g.counted listed (sym el);
        long = ap length er ∙ length-set row n k ∙ long;
      }

  -- those found are the definition's, where all partials are live
  found_are : len d.partials ≡ live
      → each (partial_in d) (filter (found_at a d) (from 0 live)) ≡ filter (usable a d) (in_queue Downloading d)
  unfolding found_at places_in places_below
  found_are e =
      let t : ℕ → Bool = λ k. same_queue (queue_in d k) Downloading in
      let u : ℕ → Bool = λ k. usable a d (partial_in d k) in
      ap (each (partial_in d)) (sym (filter_both t u (from 0 live)))
      ∙ each-filter (partial_in d) (usable a d) (filter t (from 0 live))
      ∙ ap (λ (m : ℕ). filter (usable a d) (each (partial_in d) (filter t (from 0 m)))) (sym e)
      ∙ ap (filter (usable a d)) (places_queue Downloading d)

  steps_are : len d.partials ≡ live → len (places_below (queue_in d) Downloading live) ≡ len (in_queue Downloading d)
  unfolding places_in len
  steps_are e =
      ap (λ (m : ℕ). length (places_below (queue_in d) Downloading m)) (sym e)
      ∙ sym (each-length (partial_in d) (places_in Downloading d)) ∙ ap length (places_queue Downloading d)

  pub scan_end : len d.partials ≡ live → live ≤ 512 → (k n m : ℕ) (row : List ℕ) → Scanning a d live k n m row → live ≤ k
      → Scanned a d live (record { many = n; downloading = m }) row
  scan_end e b k n m row g h =
      let found : List ℕ = filter (found_at a d) (from 0 live) in
      let z : take n row ≡ found = gather_end (found_at a d) live k n row g.gathered h in
      let few = g.gathered.few in
      let low = g.gathered.low in
      let long = g.long in
      let same : k ≡ live = omega arith in
      let many : length found ≡ n = ap length (sym z) ∙ length-take-le n row (omega arith) in
      record {
        is = ap (each (partial_in d)) z ∙ found_are e;
        steps = g.counted ∙ ap (λ (x : ℕ). len (places_below (queue_in d) Downloading x)) same ∙ steps_are e;
        few = omega (arith, (counted_few k n m row g).0);
        places = record {
          few = omega arith;
          most = b;
          low = λ j l.
              let y : get_or row j 0 ≡ get_or found j 0 = sym (get_or-take n row j 0 l) ∙ ap (λ (v : List ℕ). get_or v j 0) z in
              let w = filter_low (found_at a d) 0 live j (omega arith) in
              omega arith;
          rise = ap (climbs 0) z ∙ climbs-filter (found_at a d) 0 live;
          long = long;
        };
      }

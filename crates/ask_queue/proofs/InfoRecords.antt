-- The records of partials: of one, of a row of places, and of the four queues. Assumes nothing.
use mathlib.Core.Path.{◌≡◌, refl, sym, ap, ◌∙◌}
use mathlib.Core.List.{List, [], ◌∷◌, ◌++◌, append_assoc}
use Prim.Native.Nat.{ℕ, zero, suc, ◌+◌, ◌*◌, ◌≤◌, ◌<◌}
use native.Mathlib.Decide.{ℕ_discrete}
use native.Mathlib.Omega.{arith}
use lib.ListN.{length, get_or}
use Rattle.types.specs.declared.queue.DownloadQueue.{DownloadQueue}
use Rattle.types.specs.declared.queue.DownloadQueue.TheVariants.{Downloading, Full, Finished, ZeroPrio, Open, DownloadingReverse}
use Rattle.types.specs.declared.queue.DownloadQueue.TheVariants.{FullReverse}
use Rattle.model.specs.Lists.{bit, nth, len, from, count, concat_map}
use Rattle.model.specs.Bep3.{sum_to}
use Rattle.model.specs.State.{Picker, DownloadingPiece, same_queue}
use Rattle.model.specs.change.Partials.{in_queue}
use Rattle.model.specs.ask.Questions.{info, queue_info, list_picker, plain, get_download_queue}
use Rattle.model.proofs.base.Counts.{length-filter, length-from}
use Rattle.memory_layout.specs.declared.shape.Shape.{Shape}
use Rattle.memory_layout.specs.Tables.{tabulate}
use Rattle.memory_layout.specs.Decode.{queue_from}
use Rattle.memory_layout.specs.Changes.{partial_in}
use Rattle.memory_layout.proofs.TableLaws.{tabulate_ext, tabulate-each}
use Rattle.memory_rows.specs.Lookup.{picker_in}
use Rattle.memory_rows.proofs.RisingLaws.{live_number}
use Rattle.memory_queues.specs.Queues.{Queued, places_in, places_below, queue_in}
use Rattle.memory_queues.proofs.PlaceLaws.{places_queue, places_rising}
use Rattle.memory_queues.proofs.EnterLaws.{size_is, size_few, place_is}
use Rattle.ask_partial.specs.declared.info.PieceInfo.{PieceInfo}
use Rattle.ask_partial.specs.Info.{info_numbers, InfoSays, AskedCounts}
use Rattle.ask_picker.proofs.AskedLaws.{asked_rows, asked_queues}
use Rattle.ask_picker.proofs.TableParts.{tabulate_split}
use Rattle.ask_records.specs.Records.{words_at, told, WordsPut, Written}
use Rattle.ask_records.proofs.RecordLaws.{row_words, older_words, concat_ext}
use Rattle.ask_queue.specs.Infos.{infos_told, InfosPut, PlacesLow}

-- ---- one record
pub info_row : (x : PieceInfo) (at : ℕ) (before after : List ℕ) (a b c d e f g : ℕ) → a ≡ x.index → b ≡ x.finished
    → c ≡ bit x.passed_hash_check → d ≡ x.writing → e ≡ bit x.locked → f ≡ x.requested → g ≡ bit x.hashing
    → WordsPut at 7 (a ∷ b ∷ c ∷ d ∷ e ∷ f ∷ g ∷ []) before after → WordsPut at 7 (info_numbers x) before after
unfolding info_numbers
info_row x at before after a b c d e f g ea eb ec ed ee ef eg p = rw (← ea, ← eb, ← ec, ← ed, ← ee, ← ef, ← eg) p

info_long : (x : PieceInfo) → length (info_numbers x) ≡ 7
unfolding info_numbers
info_long x = refl

-- ---- the places of a row
pub infos_start : (rows counts row : List ℕ) (n : ℕ) (out : List ℕ) → InfosPut rows counts row n 0 out out
infos_start rows counts row n out = record { long = refl; put = λ j h. absurd (omega arith); below = λ k h. refl; behind = λ k h. refl }

pub infos_next : (rows counts row : List ℕ) (n j k : ℕ) (x : PieceInfo) (before mid after : List ℕ)
    → InfosPut rows counts row n j before mid
    → k ≡ nth 0 row j → InfoSays rows counts k x → WordsPut (7 * (n + j)) 7 (info_numbers x) mid after
    → InfosPut rows counts row n (j + 1) before after
infos_next rows counts row n j k x before mid after g e i p =
    record {
      long = p.long ∙ g.long;
      put = λ m h. elim (ℕ_discrete m j) [
        | yes q ↦ rw (q, ← e, row_words 7 (n + j) (info_numbers x) mid after p (info_long x)) (record { is = i.is })
        | no q ↦
            rw (older_words 7 (n + j) (info_numbers x) mid after p (n + m) (omega (arith, q))) (g.put m (omega (arith, q)))
      ];
      below = λ l h. p.below l (omega arith) ∙ g.below l h;
      behind = λ l h. p.behind l (omega arith) ∙ g.behind l (omega arith);
    }

pub infos_end : (rows counts row : List ℕ) (n j size : ℕ) (before after : List ℕ) → InfosPut rows counts row n j before after → j ≡ size
    → InfosPut rows counts row n size before after
infos_end rows counts row n j size before after g e = rw e at g

-- ---- lists
concat_append : {A B : Type 0} (f : A → List B) (xs ys : List A) → concat_map f (xs ++ ys) ≡ concat_map f xs ++ concat_map f ys
unfolding concat_map
concat_append f [] ys = refl
concat_append {B = B} f (x ∷ xs) ys =
    ap (λ (l : List B). f x ++ l) (concat_append f xs ys) ∙ sym (append_assoc (f x) (concat_map f xs) (concat_map f ys))

-- ---- the queues hold no partial twice
one_queue : (q : DownloadQueue)
    → bit (same_queue q Downloading) + bit (same_queue q Full) + bit (same_queue q Finished) + bit (same_queue q ZeroPrio) ≤ 1
unfolding same_queue
one_queue Downloading = omega arith
one_queue Full = omega arith
one_queue Finished = omega arith
one_queue ZeroPrio = omega arith
one_queue Open = omega arith
one_queue DownloadingReverse = omega arith
one_queue FullReverse = omega arith

four_queues : (f : ℕ → DownloadQueue) (l : List ℕ)
    → count (λ k. same_queue (f k) Downloading) l + count (λ k. same_queue (f k) Full) l + count (λ k. same_queue (f k) Finished) l
    + count (λ k. same_queue (f k) ZeroPrio) l ≤ length l
unfolding count
four_queues f [] = omega arith
four_queues f (x ∷ xs) = omega (arith, one_queue (f x), four_queues f xs)

sizes_few : (d : Picker) (queues : List (List ℕ)) (sizes : List ℕ) → Queued d queues sizes
    → nth 0 sizes 0 + nth 0 sizes 1 + nth 0 sizes 2 + nth 0 sizes 3 ≤ len d.partials
unfolding places_below queue_from nth len
sizes_few d queues sizes g =
    let f = queue_in d in
    let n = len d.partials in
    let l = from 0 n in
    omega (
      arith,
      g.count 0 (omega arith) ∙ length-filter (λ k. same_queue (f k) Downloading) l,
      g.count 1 (omega arith) ∙ length-filter (λ k. same_queue (f k) Full) l,
      g.count 2 (omega arith) ∙ length-filter (λ k. same_queue (f k) Finished) l,
      g.count 3 (omega arith) ∙ length-filter (λ k. same_queue (f k) ZeroPrio) l,
      four_queues f l,
      length-from 0 n,
    )

-- ---- queue by queue
-- the partials of the first queues
unfoldable pub up_to : (d : Picker) (q : ℕ) → List DownloadingPiece
up_to d zero = []
up_to d (suc q) = up_to d q ++ in_queue (queue_from q) d

-- the first n records are those of the first queues, and nothing behind them moved
pub record Infos (d : Picker) (sizes : List ℕ) (q n : ℕ) (before now : List ℕ) : Type 0 where
  pub few : q ≤ 4
  pub number : n ≡ sum_to q (λ p. nth 0 sizes p)
  pub tells : infos_told n now ≡ concat_map info (up_to d q)
  pub written : Written 7 n before now

pub queues_start : (d : Picker) (sizes out : List ℕ) → Infos d sizes 0 0 out out
unfolding sum_to up_to told tabulate concat_map
queues_start d sizes out = record {
  few = omega arith;
  number = refl;
  tells = refl;
  written = record { long = refl; behind = λ k h. refl };
}

-- the records before those put in tell the same
told_below : (n : ℕ) (mid after : List ℕ) → ((k : ℕ) → k < 7 * n → get_or after k 0 ≡ get_or mid k 0) → infos_told n after ≡ infos_told n mid
unfolding told words_at
told_below n mid after h =
    ap (concat_map (λ (l : List ℕ). l)) (tabulate_ext n (words_at 7 after) (words_at 7 mid) (λ j l.
    tabulate_ext 7 (λ f. get_or after (7 * j + f) 0) (λ f. get_or mid (7 * j + f) 0) (λ f m. h (7 * j + f) (omega arith))))

told_more : (n m : ℕ) (out : List ℕ)
    → infos_told (n + m) out ≡ infos_told n out ++ concat_map (λ (l : List ℕ). l) (tabulate m (λ j. words_at 7 out (n + j)))
unfolding told
told_more n m out =
    ap (concat_map (λ (l : List ℕ). l)) (tabulate_split n m (words_at 7 out))
    ∙ concat_append (λ (l : List ℕ). l) (tabulate n (words_at 7 out)) (tabulate m (λ j. words_at 7 out (n + j)))

module _ (s : Shape) (live : ℕ) (rows counts words cells : List ℕ) (g : AskedCounts s live rows counts words cells)
    (queues : List (List ℕ)) (sizes : List ℕ) (k : Queued (picker_in live rows words cells) queues sizes) where
  abbrev here : Picker
  here = picker_in live rows words cells

  all : len here.partials ≡ live
  all = live_number s live rows words cells (asked_rows s live rows words cells g.asked)

  -- few enough for the list
  pub room : (q n : ℕ) → q < 4 → n ≡ sum_to q (λ p. nth 0 sizes p) → n + nth 0 sizes q ≤ s.places
  unfolding sum_to
  room zero n h e = omega (arith, sizes_few here queues sizes k, all, g.asked.many, g.asked.stands.bounds.partials)
  room (suc zero) n h e = omega (arith, sizes_few here queues sizes k, all, g.asked.many, g.asked.stands.bounds.partials)
  room (suc (suc zero)) n h e = omega (arith, sizes_few here queues sizes k, all, g.asked.many, g.asked.stands.bounds.partials)
  room (suc (suc (suc zero))) n h e = omega (arith, sizes_few here queues sizes k, all, g.asked.many, g.asked.stands.bounds.partials)
  room (suc (suc (suc (suc q)))) n h e = absurd (omega arith)

  module _ (q : ℕ) (h : q < 4) where
    -- the places of a row are those of partials
    place_low : (j : ℕ) → j < nth 0 sizes q → nth 0 (nth [] queues q) j < live
    unfolding places_in
    place_low j l =
        let e = size_is here queues sizes k q h in
        omega (
          arith,
          all,
          place_is here queues sizes k q h j l,
          (places_rising (queue_in here) (queue_from q) (len here.partials)).below j (omega arith),
        )

    pub places_low : PlacesLow (nth [] queues q) (nth 0 sizes q)
    places_low j l =
        omega (arith, place_low j l, (asked_queues s live rows words cells g.asked).few)

    pub size_low : nth 0 sizes q ≤ 512
    size_low = omega (arith, size_few here queues sizes k q h, all, (asked_queues s live rows words cells g.asked).few)

    -- what stands in a row are the partials of its queue
    row_partials : tabulate (nth 0 sizes q) (λ j. partial_in here (nth 0 (nth [] queues q) j)) ≡ in_queue (queue_from q) here
    unfolding nth len
    row_partials =
        tabulate-each (partial_in here) (places_in (queue_from q) here) (nth 0 sizes q) (λ j. partial_in here (nth 0 (nth [] queues q) j))
        (sym (size_is here queues sizes k q h)) (λ j l. ap (partial_in here) (place_is here queues sizes k q h j l))
        ∙ places_queue (queue_from q) here

    -- one queue more
    pub queues_next : (n : ℕ) (before mid after : List ℕ) → Infos here sizes q n before mid
        → InfosPut rows counts (nth [] queues q) n (nth 0 sizes q) mid after
        → Infos here sizes (q + 1) (n + nth 0 sizes q) before after
    unfolding sum_to up_to
    queues_next n before mid after i p =
        let size = nth 0 sizes q in
        let v = asked_rows s live rows words cells g.asked in
        let e : suc q ≡ q + 1 = omega arith in
        let t : infos_told (n + size) after ≡ concat_map info (up_to here (suc q)) =
        told_more n size after
        ∙ (λ x. told_below n mid after p.below x ++ concat_ext (λ (l : List ℕ). l) info size (λ j. words_at 7 after (n + j))
        (λ j. partial_in here (nth 0 (nth [] queues q) j)) (λ j l. (p.put j l).is s live words cells v g.held (place_low j l)) x)
        ∙ (λ x. i.tells x ++ concat_map info (row_partials x))
        ∙ sym (concat_append info (up_to here q) (in_queue (queue_from q) here)) in
        rw (← e) (record {
          few = omega arith;
          number = ap (λ (m : ℕ). m + size) i.number;
          tells = t;
          written = record {
            long = p.long ∙ i.written.long;
            behind = λ l b. p.behind l b ∙ i.written.behind l (omega arith);
          };
        })

  -- all four
  pub queues_end : (q n : ℕ) (before after : List ℕ) → Infos here sizes q n before after → 4 ≤ q
      → plain (infos_told n after) ≡ list_picker here get_download_queue
  unfolding list_picker queue_info up_to queue_from nth
  queues_end q n before after i h =
      let e : q ≡ 4 = omega (arith, i.few) in
      let a = in_queue Downloading here in
      let b = in_queue Full here in
      let c = in_queue Finished here in
      let d = in_queue ZeroPrio here in
      ap plain (i.tells ∙ ap (λ (x : ℕ). concat_map info (up_to here x)) e
      ∙ ap (concat_map info) (append_assoc (a ++ b) c d ∙ append_assoc a b (c ++ d)))

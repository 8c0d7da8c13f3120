-- The length of an image from the blocks of its rows. Assumes nothing.
use mathlib.Core.Path.{◌≡◌, refl, sym, ap, ap₂, ◌∙◌}
use mathlib.Core.List.{List}
use Prim.Native.Nat.{ℕ, zero, suc, ◌+◌, ◌*◌, ◌≤◌, ◌<◌}
use native.Mathlib.Numerals.{add-one}
use native.Mathlib.Omega.{arith}
use lib.ListN.{get_or}
use Rattle.model.specs.Lists.{len}
use Rattle.model.specs.Bep3.{sum_to}
use Rattle.model.specs.State.{Picker, DownloadingPiece}
use Rattle.model.specs.image.Image.{image}
use Rattle.geometry_needs.specs.Needs.{Parts, image_length, blocks_of as all_blocks}
use Rattle.geometry_needs.proofs.ImageLength.{size_image}
use Rattle.memory_records.specs.Rows.{records_in}
use Rattle.memory_layout.specs.declared.shape.Shape.{Shape}
use Rattle.memory_layout.specs.Tables.{tabulate}
use Rattle.memory_layout.specs.Decode.{head_word, record_at, blocks_of, block_held, blocks_held, partial_from, partial_held, partials_held}
use Rattle.memory_layout.proofs.BoundsLaws.{decode_at_lem, blocks_within}
use Rattle.memory_layout.proofs.TableLaws.{tabulate-len}
use Rattle.memory_layout.proofs.Meanings.{pieces_number, list_length_is, extents_number}
use Rattle.memory_rows.specs.Lookup.{picker_in}
use Rattle.memory_halving.proofs.RowLaws.{row_index}
use Rattle.memory_rows.proofs.RisingLaws.{live_number}
use Rattle.ask_picker.specs.Asked.{Asked}
use Rattle.ask_picker.proofs.AskedLaws.{asked_rows, asked_queues}

-- ---- sums
-- of functions that agree
sum_ext : (n : ℕ) (f g : ℕ → ℕ) → ((k : ℕ) → k < n → f k ≡ g k) → sum_to n f ≡ sum_to n g
unfolding sum_to
sum_ext zero f g h = refl
sum_ext (suc n) f g h = ap₂ ◌+◌ (sum_ext n f g (λ k l. h k (omega arith))) (h n (omega arith))

-- one more
pub sum_next : (k v sum : ℕ) (f : ℕ → ℕ) → sum ≡ sum_to k f → v ≡ f k → sum + v ≡ sum_to (k + 1) f
unfolding sum_to
sum_next k v sum f e h = ap₂ ◌+◌ e h ∙ ap (λ (n : ℕ). sum_to n f) (sym (add-one k))

-- the last
pub sum_end : (k n sum : ℕ) (f : ℕ → ℕ) → sum ≡ sum_to k f → k ≡ n → sum ≡ sum_to n f
sum_end k n sum f e h = e ∙ ap (λ (m : ℕ). sum_to m f) h

-- of numbers that are small
pub sum_small : (n m : ℕ) (f : ℕ → ℕ) → ((k : ℕ) → k < n → f k ≤ m) → sum_to n f ≤ n * m
unfolding sum_to
sum_small zero m f h = omega arith
sum_small (suc n) m f h = omega (arith, sum_small n m f (λ k l. h k (omega arith)), h n (omega arith))

-- taken from the front
sum_front : (n : ℕ) (f : ℕ → ℕ) → sum_to (suc n) f ≡ f zero + sum_to n (λ k. f (suc k))
unfolding sum_to
sum_front zero f = omega arith
sum_front (suc n) f = omega (arith, sum_front n f)

-- the blocks of partials made one by one
blocks_sum : (n : ℕ) (g : ℕ → DownloadingPiece) → all_blocks (tabulate n g) ≡ sum_to n (λ k. len (g k).blocks)
unfolding all_blocks tabulate sum_to
blocks_sum zero g = refl
blocks_sum (suc n) g =
    ap (λ (x : ℕ). len (g zero).blocks + x) (blocks_sum n (λ k. g (suc k))) ∙ sym (sum_front n (λ k. len (g k).blocks))

-- ---- the picker
module _ (s : Shape) (live : ℕ) (rows words cells : List ℕ) (g : Asked s live rows words cells) where
  abbrev here : Picker
  here = picker_in live rows words cells

  blocks_are : all_blocks here.partials ≡ sum_to live (λ k. blocks_of words (get_or rows k 0))
  unfolding partials_held partial_held partial_from blocks_held record_at
  blocks_are =
      let rs = records_in live rows in
      let f : ℕ → DownloadingPiece = λ k. partial_held words cells s.pieces s.blocks (record_at rs k) in
      ap (λ (d : Picker). all_blocks d.partials) (decode_at_lem s rs words cells g.stands.bounds)
      ∙ blocks_sum (head_word words 7) f
      ∙ ap (λ (n : ℕ). sum_to n (λ k. len (f k).blocks)) (sym g.many)
      ∙ sum_ext live (λ k. len (f k).blocks) (λ k. blocks_of words (get_or rows k 0)) (λ k h.
      tabulate-len (blocks_of words (record_at rs k).index) (block_held words cells s.pieces s.blocks (record_at rs k).info_idx)
      ∙ ap (blocks_of words) (row_index live rows k h))

  -- what the length is told from is small
  pub blocks_small : (k : ℕ) → k ≤ live → sum_to k (λ j. blocks_of words (get_or rows j 0)) ≤ 512 * 256
  blocks_small k h =
      omega (
        arith,
        (asked_queues s live rows words cells g).few,
        sum_small k 256 (λ j. blocks_of words (get_or rows j 0)) (λ j l.
            omega (arith, blocks_within s (records_in live rows) words cells g.stands.bounds (get_or rows j 0), g.stands.bounds.spans.in_words.sizes.wide)),
      )

  pub parts_small : (n m b e p : ℕ) → n ≡ s.pieces → m ≡ live → b ≡ sum_to live (λ j. blocks_of words (get_or rows j 0)) → e ≡ head_word words 8
      → p ≡ head_word words 6 → Parts n m b e p
  parts_small n m b e p en em eb ee ep =
      let z = g.stands.bounds.spans.in_words.sizes in
      record {
        pieces_most = omega (arith, z.many);
        partials_most = omega (arith, (asked_queues s live rows words cells g).few);
        blocks_most = omega (arith, blocks_small live (omega arith));
        extents_most = omega (arith, g.stands.bounds.recent_extents);
        places_most = omega (arith, g.stands.bounds.list, z.many);
      }

  pub length_is : (n m b e p : ℕ) → n ≡ s.pieces → m ≡ live → b ≡ sum_to live (λ j. blocks_of words (get_or rows j 0)) → e ≡ head_word words 8
      → p ≡ head_word words 6 → image_length n m b e p ≡ len (image here)
  length_is n m b e p en em eb ee ep =
      let q = g.stands.bounds in
      let rs = records_in live rows in
      rw (
        en,
        em,
        eb,
        ee,
        ep,
        size_image here,
        pieces_number s rs words cells q,
        live_number s live rows words cells (asked_rows s live rows words cells g),
        blocks_are,
        extents_number s rs words cells q,
        list_length_is s rs words cells q,
      )

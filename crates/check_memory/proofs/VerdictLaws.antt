-- What each return of the whole test says of the definition's refusal. Assumes nothing.
use Rattle.std.specs.Prelude.{Ok, Err}
use Prim.Native.Nat.{ℕ, ◌≤◌, ◌<◌}
use mathlib.Core.Path.{◌≡◌, refl, sym, ap, subst, ◌∙◌}
use mathlib.Core.Bool.{Bool, true, false}
use mathlib.Core.List.{List}
use mathlib.Core.Option.{some, none-ne-some}
use lib.ListN.{length}
use native.Mathlib.Omega.{arith}
use borrow.Author.Tests.{lt-ltb, le-ltb}
use Rattle.types.specs.declared.refusal.Refusal.TheVariants.{ShortMemory, IllFormedMemory}
use Rattle.model.specs.State.{valid_geometry}
use Rattle.model.specs.image.WellFormed.{head_ok}
use Rattle.memory_records.specs.declared.record.DownloadingPiece.{DownloadingPiece as Record}
use Rattle.memory_records.specs.Rows.{live_records, records_in}
use Rattle.memory_records.proofs.laws.LiveLaws.{live_few}
use Rattle.memory_layout.proofs.OffsetLaws.{small}
use Rattle.memory_layout.specs.declared.shape.Shape.{Shape}
use Rattle.memory_layout.specs.Decode.{head_word, decode}
use Rattle.memory_layout.specs.Bounds.{ShapeOf}
use Rattle.memory_layout.specs.Good.{short, or_else, good_head, good_body, memory_refusal}
use Rattle.check_pieces.specs.Parts.{HeadTest, HeadPassed}
use Rattle.check_pieces.proofs.HeadLaws.{headed}
use Rattle.check_partials.specs.Records.{CountsHeld}
use Rattle.check_memory.specs.Verdicts.{refusal_of, good_rows, Begun, RowTest, Checked}
use Rattle.check_memory.proofs.LengthLaws.{spanned}

-- ---- what the tests so far say
pub geometry_read : (words : List ℕ) (total size : ℕ) (r : Bool) → total ≡ head_word words 0 → size ≡ head_word words 1
    → r ≡ valid_geometry total size → (t : Bool) → r ≡ t → valid_geometry (head_word words 0) (head_word words 1) ≡ t
geometry_read words total size r e f g t h = (λ k. valid_geometry (sym e k) (sym f k)) ∙ sym g ∙ h

pub head_says : (r : Bool) (words : List ℕ) → HeadTest r words → (t : Bool) → r ≡ t → HeadTest t words
head_says r words h t e records cells = sym e ∙ h records cells

-- records and cells have no say in the head
pub head_any : (rs : List Record) (words cells : List ℕ) → good_head rs words cells ≡ true → HeadTest true words
unfolding good_head head_ok
head_any rs words cells h records more = sym h

module _ (s : Shape) (lent : ℕ) (words cells : List ℕ) (g : ShapeOf s words) (h : 16 ≤ length words)
    (v : valid_geometry (head_word words 0) (head_word words 1) ≡ true) (t : short lent words cells ≡ false) (a : HeadTest true words) where
  pub passed : HeadPassed s words
  passed =
      record {
        in_words = (spanned s lent words cells g t).in_words;
        geometry = v;
        pieces = g.pieces;
        blocks = g.blocks;
        head = a;
      }

  -- word 7 is not above 512
  most : head_word words 7 ≤ 512
  most =
      let p = (headed s words passed).partials in
      let q : head_word words 7 ≤ s.places = rw (g.sizes.places, g.pieces) p in
      omega (arith, q, (small s 0 0 g.sizes (omega arith) (omega arith)).places)

  -- so the live records are as many as it says
  pub live_is : live_records words ≡ head_word words 7
  live_is = live_few words h (unfold head_word in most) ∙ (unfold head_word in refl)

  pub begun : (live : ℕ) → live ≡ live_records words → Begun s live words cells
  begun live e = record { passed = passed; shape = g; spans = spanned s lent words cells g t; many = e ∙ live_is }

-- ---- refusals
module _ (lent : ℕ) (rows words cells counts : List ℕ) (long : length counts ≡ 1536) where
  is_short : some ShortMemory ≡ memory_refusal lent (records_in (live_records words) rows) words cells
      → Checked (Err ShortMemory) lent rows words cells counts
  unfolding refusal_of
  is_short e = record { is = e; counted = λ h. absurd (none-ne-some ShortMemory (sym (ap refusal_of h))); long = long }

  is_ill : some IllFormedMemory ≡ memory_refusal lent (records_in (live_records words) rows) words cells
      → Checked (Err IllFormedMemory) lent rows words cells counts
  unfolding refusal_of
  is_ill e = record { is = e; counted = λ h. absurd (none-ne-some IllFormedMemory (sym (ap refusal_of h))); long = long }

  pub no_head : length words < 16 → Checked (Err ShortMemory) lent rows words cells counts
  no_head h = is_short (unfold memory_refusal or_else in rw (lt-ltb (length words) 16 h))

  module _ (h : 16 ≤ length words) where
    pub no_geometry : valid_geometry (head_word words 0) (head_word words 1) ≡ false → Checked (Err IllFormedMemory) lent rows words cells counts
    no_geometry v = is_ill (unfold memory_refusal or_else in rw (le-ltb (length words) 16 h, v))

    module _ (v : valid_geometry (head_word words 0) (head_word words 1) ≡ true) where
      pub too_short : short lent words cells ≡ true → Checked (Err ShortMemory) lent rows words cells counts
      too_short t = is_short (unfold memory_refusal or_else in rw (le-ltb (length words) 16 h, v, t))

      module _ (t : short lent words cells ≡ false) where
        bad_body : good_body (records_in (live_records words) rows) words cells ≡ false → Checked (Err IllFormedMemory) lent rows words cells counts
        bad_body b = is_ill (unfold memory_refusal or_else in rw (le-ltb (length words) 16 h, v, t, b))

        pub bad_head : HeadTest false words → Checked (Err IllFormedMemory) lent rows words cells counts
        bad_head a = bad_body (unfold good_body in rw (← (a (records_in (live_records words) rows) cells)))

        module _ (a : HeadTest true words) where
          body_is : good_body (records_in (live_records words) rows) words cells ≡ good_rows (records_in (live_records words) rows) words cells
          unfolding good_body good_rows
          body_is = rw (← (a (records_in (live_records words) rows) cells))

          pub bad_rows : (live : ℕ) → live ≡ live_records words → (r : Bool) → r ≡ false → RowTest r live rows words cells counts
              → Checked (Err IllFormedMemory) lent rows words cells counts
          bad_rows live e r f q =
              let w = subst (λ (k : ℕ). RowTest r k rows words cells counts) e q in
              bad_body (body_is ∙ sym w.is ∙ f)

          pub good_rows_lem : (s : Shape) → ShapeOf s words → (live : ℕ) → live ≡ live_records words → (r : Bool) → r ≡ true
              → RowTest r live rows words cells counts → Checked (Ok tt) lent rows words cells counts
          unfolding memory_refusal or_else refusal_of
          good_rows_lem s g live e r f q =
              let w = subst (λ (k : ℕ). RowTest r k rows words cells counts) e q in
              record {
                is = rw (le-ltb (length words) 16 h, v, t, body_is ∙ sym w.is ∙ f);
                counted = λ _. subst (λ (k : ℕ). CountsHeld (decode (records_in (live_records words) rows) words cells) k counts)
                    (live_is s lent words cells g h v t a) (w.counted f);
                long = long;
              }

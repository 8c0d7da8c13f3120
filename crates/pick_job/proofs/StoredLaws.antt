-- The picker of an image in the buffers of the program: they have room for it, and it stands there as a pick needs it. Assumes nothing.
use Rattle.std.specs.Prelude.{Result, Ok, ⊤}
use mathlib.Core.Path.{◌≡◌, sym, ap, ap₂, subst, ◌∙◌}
use mathlib.Core.Bool.{Bool, true, false, cond, ◌&&◌}
use mathlib.Core.List.{List}
use mathlib.Core.Option.{none, some, none-ne-some}
use Prim.Native.Nat.{ℕ, ◌*◌, ◌≤◌}
use native.Mathlib.Omega.{arith}
use native.Mathlib.Nat.{mul-le-mul}
use lib.Dec.{leb}
use lib.ListN.{length, replicate}
use borrow.Author.Tests.{leb-true}
use Rattle.types.specs.declared.refusal.Refusal.{Refusal}
use Rattle.types.specs.declared.refusal.Refusal.TheVariants.{ShortMemory}
use Rattle.model.specs.Lists.{len}
use Rattle.model.specs.Bep3.{num_pieces, whole_piece_blocks}
use Rattle.model.specs.State.{Picker, pieces_in, blocks_per_piece}
use Rattle.model.specs.Calls.{refused}
use Rattle.model.specs.image.Image.{accepted, read_image}
use Rattle.model.proofs.base.Truths.{both_true}
use Rattle.memory_records.specs.Rows.{live_records, records_in}
use Rattle.memory_records.proofs.laws.LiveLaws.{live_few}
use Rattle.memory_records.proofs.laws.RowLaws.{length_records, records_at}
use Rattle.memory_layout.specs.declared.shape.Shape.{Shape}
use Rattle.memory_layout.specs.Offsets.{places_for, words_for, cells_for}
use Rattle.memory_layout.specs.Decode.{head_word, record_at}
use Rattle.memory_layout.specs.Bounds.{ShapeOf}
use Rattle.memory_layout.specs.Standing.{Stands}
use Rattle.memory_layout.specs.Good.{memory_refusal}
use Rattle.memory_layout.proofs.OffsetLaws.{places_min, head_in}
use Rattle.memory_layout.proofs.Meanings.{pieces_number, partials_number}
use Rattle.check_partials.specs.Records.{CountsHeld}
use Rattle.check_memory.specs.Verdicts.{refusal_of, Checked}
use Rattle.check_memory.proofs.Passing.{stands_passes}
use Rattle.memory_rows.specs.Lookup.{picker_in}
use Rattle.ask_picker.specs.Asked.{Asked}
use Rattle.image_pieces.specs.declared.head.Head.{Head}
use Rattle.image_pieces.proofs.HeadLaws.{HeadGot}
use Rattle.image_records.specs.declared.pick.Pick.{Pick}
use Rattle.image_store.specs.Stored.{RowsAre, Standing as PickerStands}
use Rattle.image_store.proofs.PartLaws.{pieces_in_lem, blocks_in}
use Rattle.picker_calls.specs.Cores.{Stood, Admitted}
use Rattle.picker_calls.proofs.AdmissionLaws.{good_stood}
use Rattle.pick_job.specs.Jobs.{pick_answered, request_ones, program_pick, limited, Stored}

-- ---- the test of the memory passes
module _ {live : ℕ} {rows words cells : List ℕ} (t : Stored live rows words cells) where
  abbrev stand : Stands t.shape (records_in live rows) words cells
  stand = t.asked.stands

  pub words_long : 16 ≤ length words
  words_long = head_in t.shape words stand.bounds.spans.in_words

  few_places : t.shape.places ≤ 64
  few_places = omega (arith, t.few, stand.bounds.spans.in_words.sizes.places, places_min t.shape.pieces)

  live_is : live_records words ≡ live
  unfolding head_word
  live_is =
      live_few words words_long (omega (arith, stand.bounds.partials, few_places)) ∙ sym t.asked.many

  passes : memory_refusal 64 (records_in (live_records words) rows) words cells ≡ none
  passes =
      ap (λ (n : ℕ). memory_refusal 64 (records_in n rows) words cells) live_is
      ∙ stands_passes t.shape (records_in live rows) words cells stand 64 few_places

  module _ {counts : List ℕ} {v : Result ⊤ Refusal} (c : Checked v 64 rows words cells counts) where
    pub never_refused : {X : Type 0} (why : Refusal) → refusal_of v ≡ some why → X
    never_refused why e = absurd (none-ne-some _ (sym (c.is ∙ passes) ∙ e))

    module _ (good : v ≡ Ok tt) (s : Shape) (shape : ShapeOf s words) where
      stood : Stood s (head_word words 7) 64 rows counts words cells
      unfolding Admitted
      stood = good_stood words cells rows counts 64 v c good s shape t.asked.wide

      pub asked_here : Asked s live rows words cells
      asked_here = record {
        stands = subst (λ (n : ℕ). Stands s (records_in n rows) words cells) (sym t.asked.many) stood.stands;
        many = t.asked.many;
        wide = t.asked.wide;
      }

      pub few_here : s.pieces ≤ 64
      few_here = omega (arith, t.few, stood.stands.bounds.pieces, stand.bounds.pieces)

      pub counts_here : (CountsHeld (picker_in live rows words cells) live counts) × (length counts ≡ 1536)
      counts_here = (
        subst (λ (n : ℕ). CountsHeld (picker_in n rows words cells) n counts) (sym t.asked.many) stood.counted,
        stood.long_counts,
      )

      -- as many bits as the picker has pieces
      pub program_is : (p : Pick) (free : ℕ) → free ≡ 4351
          → pick_answered (picker_in live rows words cells) (request_ones p s.pieces) free (replicate 4352 0)
          ≡ program_pick (picker_in live rows words cells) p
      unfolding program_pick
      program_is p free e =
          ap₂ (λ (n f : ℕ). pick_answered (picker_in live rows words cells) (request_ones p n) f (replicate 4352 0))
          (sym (pieces_number s (records_in live rows) words cells asked_here.stands.bounds)) e

-- ---- the limits
module _ (bytes : List ℕ) (head : Head) (g : HeadGot bytes head) (d : Picker) (e : read_image bytes ≡ accepted d) where
  abbrev small : Bool
  small = leb (num_pieces head.total head.size) 64 && leb (whole_piece_blocks head.size) 16

  test_is : (leb (pieces_in d) 64 && leb (blocks_per_piece d) 16) ≡ small
  test_is = ap₂ (λ (n b : ℕ). leb n 64 && leb b 16) (pieces_in_lem bytes d e head g) (blocks_in bytes d e head g)

  pub past_told : (p : Pick) → small ≡ false → refused ShortMemory ≡ limited d p
  unfolding limited
  past_told p f = sym (ap (λ (t : Bool). cond t (program_pick d p) (refused ShortMemory)) (test_is ∙ f))

  pub within_told : (p : Pick) → small ≡ true → program_pick d p ≡ limited d p
  unfolding limited
  within_told p f = sym (ap (λ (t : Bool). cond t (program_pick d p) (refused ShortMemory)) (test_is ∙ f))

  pub few_pieces : small ≡ true → (pieces_in d ≤ 64) × (blocks_per_piece d ≤ 16)
  few_pieces f =
      let z = both_true (leb (pieces_in d) 64) (leb (blocks_per_piece d) 16) (test_is ∙ f) in
      (leb-true (pieces_in d) 64 z.0, leb-true (blocks_per_piece d) 16 z.1)

-- ---- room
rows_most : (n b : ℕ) → n ≤ 64 → b ≤ 16 → places_for n * b ≤ 1024
rows_most n b h k =
    let a : places_for n ≤ 64 = omega (arith, h, places_min n) in
    mul-le-mul a k

pub room_there : (bytes : List ℕ) (head : Head) → HeadGot bytes head
    → (leb (num_pieces head.total head.size) 64 && leb (whole_piece_blocks head.size) 16) ≡ true
    → (d : Picker) → read_image bytes ≡ accepted d
    → (words_for (pieces_in d) (blocks_per_piece d) ≤ 1168) × (cells_for (pieces_in d) (blocks_per_piece d) ≤ 3328)
unfolding words_for cells_for
room_there bytes head g f d e =
    let z = few_pieces bytes head g d e f in
    let m = rows_most (pieces_in d) (blocks_per_piece d) z.0 z.1 in
    (omega (arith, z.0, m), omega (arith, z.0, m))

-- ---- stored
module _ {d : Picker} {live : ℕ} {words cells words' cells' rows' : List ℕ} (t : PickerStands d live words cells words' cells' rows') where
  rows_own : RowsAre live rows' (records_in live rows')
  unfolding record_at
  rows_own = record {
    many = omega (arith, length_records live rows');
    are = λ k h. records_at live rows' k h;
  }

  pub own_is : picker_in live rows' words' cells' ≡ d
  own_is = t.is (records_in live rows') rows_own

  own_stands : Stands t.shape (records_in live rows') words' cells'
  own_stands = t.stands (records_in live rows') rows_own

  pub stored_here : length rows' ≡ 1536 → pieces_in d ≤ 64 → Stored live rows' words' cells'
  stored_here wide few = record {
    shape = t.shape;
    asked = record {
      stands = own_stands;
      many =
          t.many ∙ ap (λ (p : Picker). len p.partials) (sym own_is)
          ∙ partials_number t.shape (records_in live rows') words' cells' own_stands.bounds;
      wide = wide;
    };
    few = omega (arith, few, ap pieces_in own_is, pieces_number t.shape (records_in live rows') words' cells' own_stands.bounds);
  }

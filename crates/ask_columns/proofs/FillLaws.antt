-- The places filled one after another, and what the list is of the picker. Assumes nothing.
use mathlib.Core.Path.{◌≡◌, refl, sym, ap, ◌∙◌}
use mathlib.Core.List.{List, [], ◌∷◌}
use Prim.Native.Nat.{ℕ, zero, suc, ◌+◌, ◌≤◌, ◌<◌}
use native.Mathlib.Decide.{ℕ_discrete}
use native.Mathlib.Omega.{arith}
use lib.ListN.{length, get_or, set, length-set}
use lib.Seq.{get_or-set_same, get_or-set_other}
use Rattle.model.specs.Lists.{each}
use Rattle.model.specs.State.{Piece, Picker, piece_at}
use Rattle.model.specs.ask.Questions.{Reply, plain, list_picker, get_availability_vec, piece_priorities, availability}
use Rattle.memory_records.specs.declared.record.DownloadingPiece.{DownloadingPiece as Record}
use Rattle.memory_layout.specs.declared.shape.Shape.{Shape}
use Rattle.memory_layout.specs.Tables.{tabulate, front}
use Rattle.memory_layout.specs.Decode.{head_word, piece_cell, piece_held, pieces_held, decode}
use Rattle.model.proofs.sound.SoundLaws.{well_formed_sound}
use Rattle.model.proofs.sound.SoundBody.{piece_in}
use Rattle.memory_layout.proofs.TableLaws.{tabulate_ext}
use Rattle.memory_layout.proofs.Meanings.{pieces_number, peer_count_is, priority_is}
use Rattle.memory_layout.proofs.BoundsLaws.{decode_at_lem}
use Rattle.memory_layout.specs.Standing.{StandsBeside}
use Rattle.ask_picker.proofs.AskedLaws.{some_piece, peers_few}
use Rattle.ask_columns.specs.Filled.{ColumnFits, ColumnFilled, Told}

-- ---- one after another
pub filled_start : (cells : List ℕ) (n f more : ℕ) (out : List ℕ) → ColumnFilled cells n f more 0 out out
filled_start cells n f more out = record { long = refl; number = λ k h. absurd (omega arith); behind = λ k h. refl }

pub filled_next : (cells : List ℕ) (n f more i : ℕ) (entry out : List ℕ) → ColumnFilled cells n f more i entry out → i < length entry
    → (x y : ℕ) → x ≡ y + more → y ≡ piece_cell cells n f i → ColumnFilled cells n f more (i + 1) entry (set out i x)
filled_next cells n f more i entry out g h x y e o = record {
  long = length-set out i x ∙ g.long;
  number = λ k l. elim (ℕ_discrete k i) [
    | yes q ↦ rw q (get_or-set_same out i x 0 (omega (arith, g.long)) ∙ e ∙ ap (λ (z : ℕ). z + more) o)
    | no q ↦ get_or-set_other out i k x 0 q ∙ g.number k (omega (arith, q))
  ];
  behind = λ k l. get_or-set_other out i k x 0 (λ q. omega arith) ∙ g.behind k (omega arith);
}

-- ---- what they are
-- the front of a list, from its numbers
front_table : (n : ℕ) (f : ℕ → ℕ) (l : List ℕ) → n ≤ length l → ((k : ℕ) → k < n → get_or l k 0 ≡ f k) → front n l ≡ tabulate n f
unfolding front tabulate
front_table zero f l h e = refl
front_table (suc n) f [] h e = absurd (omega arith)
front_table (suc n) f (x ∷ xs) h e =
    λ i. e 0 (omega arith) i ∷ front_table n (λ k. f (suc k)) xs (omega arith) (λ k l. e (suc k) (omega arith)) i

each_table : {A : Type 0} (g : A → ℕ) (n : ℕ) (f : ℕ → A) → each g (tabulate n f) ≡ tabulate n (λ k. g (f k))
unfolding each tabulate
each_table g zero f = refl
each_table g (suc n) f = ap (λ (l : List ℕ). g (f 0) ∷ l) (each_table g n (λ k. f (suc k)))

module _ (s : Shape) (words cells : List ℕ) (f more : ℕ) (entry out : List ℕ)
    (g : ColumnFilled cells s.pieces f more s.pieces entry out) (h : s.pieces ≤ length entry) where
  -- a number of each piece that is a column's with the same number added
  told : (field : Picker → Reply) (number : Picker → Piece → ℕ) → ((d : Picker) → field d ≡ plain (each (number d) d.pieces))
      → ((records : List Record) (k : ℕ) → number (decode records words cells) (piece_held words cells s.pieces k)
      ≡ piece_cell cells s.pieces f k + more)
      → Told s words cells field entry out
  unfolding pieces_held
  told field number e o = record {
    is = λ records q.
        let d = decode records words cells in
        let n = s.pieces in
        ap plain (front_table n (λ k. piece_cell cells n f k + more) out (omega (arith, g.long)) g.number
        ∙ tabulate_ext n _ (λ k. number d (piece_held words cells n k)) (λ k l. sym (o records k))
        ∙ sym (each_table (number d) n (piece_held words cells n))
        ∙ ap (λ (x : Picker). each (number d) x.pieces) (sym (decode_at_lem s records words cells q))) ∙ sym (e d);
    long = g.long;
    behind = g.behind;
  }

-- the peers of each piece with the seeds
pub availability_told : (s : Shape) (words cells : List ℕ) (more : ℕ) (entry out : List ℕ) → s.pieces ≤ length entry
    → more ≡ head_word words 2
    → ColumnFilled cells s.pieces 0 more s.pieces entry out
    → Told s words cells (λ d. list_picker d get_availability_vec) entry out
unfolding list_picker availability piece_held
availability_told s words cells more entry out h e g =
    told s words cells 0 more entry out g h (λ d. list_picker d get_availability_vec) availability (λ d. refl)
    (λ records k. ap (λ (x : ℕ). piece_cell cells s.pieces 0 k + x) (sym e))

-- their priorities
pub priorities_told : (s : Shape) (words cells entry out : List ℕ) → s.pieces ≤ length entry
    → ColumnFilled cells s.pieces 2 0 s.pieces entry out
    → Told s words cells (λ d. list_picker d piece_priorities) entry out
unfolding list_picker piece_held
priorities_told s words cells entry out h g =
    told s words cells 2 0 entry out g h (λ d. list_picker d piece_priorities) (λ d p. p.priority) (λ d. refl)
    (λ records k. omega arith)

-- the seeds of a picker that stands are few
pub seeds_few : (s : Shape) (words cells : List ℕ) → StandsBeside s words cells → head_word words 2 ≤ 1000
seeds_few s words cells g =
    let some = some_piece s g.records words cells g.stands in
    omega (arith, peers_few s g.records words cells g.stands 0 (omega arith))

-- their columns have room
module _ (s : Shape) (words cells : List ℕ) (g : StandsBeside s words cells) where
  pub availability_fits : ColumnFits cells s.pieces 0 (head_word words 2)
  availability_fits i h = omega (
    arith,
    peers_few s g.records words cells g.stands i h,
    peer_count_is s g.records words cells g.stands.bounds i h,
  )

  pub priorities_fit : ColumnFits cells s.pieces 2 0
  priorities_fit i h =
      let d = decode g.records words cells in
      let w = well_formed_sound d g.stands.sound in
      let m = pieces_number s g.records words cells g.stands.bounds in
      omega (
        arith,
        (piece_in d i (piece_at d i) (w.piece i (omega (arith, m)))).priority,
        priority_is s g.records words cells g.stands.bounds i h,
      )

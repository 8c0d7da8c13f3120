-- 6 and 7 of one piece, and what a call that is not refused gives its change. Assumes nothing.
use mathlib.Core.Path.{◌≡◌, refl}
use mathlib.Core.Bool.{Bool, true, false, ◌&&◌}
use mathlib.Core.List.{List}
use mathlib.Core.Option.{none, some}
use Prim.Native.Nat.{ℕ, ◌+◌, ◌≤◌, ◌<◌}
use native.Mathlib.Omega.{arith}
use lib.Dec.{eqb}
use borrow.Author.Tests.{leb-false, le-leb, lt-leb, eq-eqb, ne_eqb, eqb-true, eqb-false}
use Rattle.types.specs.declared.refusal.Refusal.TheVariants.{TooManyPeers, NoPeerToTake}
use Rattle.model.specs.Lists.{each}
use Rattle.model.specs.State.{piece_at, max_peers}
use Rattle.model.specs.list.Order.{Draws}
use Rattle.model.specs.ask.Questions.{reply_piece, get_availability, availability, one, plain}
use Rattle.model.specs.Calls.{do_inc_refcount, do_dec_refcount, check, peers_full, refusal}
use Rattle.model.proofs.keep.KeepCalls.{check-none}
use Rattle.memory_records.specs.declared.record.DownloadingPiece.{DownloadingPiece as Record}
use Rattle.memory_layout.specs.declared.shape.Shape.{Shape}
use Rattle.memory_layout.specs.Decode.{head_word, piece_cell, decode}
use Rattle.memory_layout.specs.Standing.{Stands}
use Rattle.memory_layout.proofs.Meanings.{peer_count_is}
use Rattle.ask_picker.specs.Telling.{BothSay}
use Rattle.picker_calls.proofs.JudgeLaws.{check_yes, check_no, few_passed, do_piece_passed}

-- both are 0, where their sum is
none_at_all : (seeds count : ℕ) → count + seeds ≡ 0 → (eqb seeds 0 && eqb count 0) ≡ true
none_at_all seeds count e = rw (eq-eqb seeds 0 (omega arith), eq-eqb count 0 (omega arith)) refl

some_at_all : (seeds count : ℕ) → 0 < count + seeds → (eqb seeds 0 && eqb count 0) ≡ false
some_at_all seeds count h = go (eqb seeds 0) refl
  where
    go : (t : Bool) → eqb seeds 0 ≡ t → (t && eqb count 0) ≡ false
    go true e = ne_eqb count 0 (λ c. omega (arith, eqb-true seeds 0 e))
    go false e = refl

-- the sum is not 0, where not both are
not_none : (seeds count : ℕ) → (eqb seeds 0 && eqb count 0) ≡ false → 0 < count + seeds
not_none seeds count h = go (eqb seeds 0) refl h
  where
    go : (t : Bool) → eqb seeds 0 ≡ t → (t && eqb count 0) ≡ false → 0 < count + seeds
    go true e f = let n = eqb-false count 0 f in omega arith
    go false e f = let n = eqb-false seeds 0 e in omega arith

-- ---- the judge, where n have the piece
module _ (s : Shape) (words cells : List ℕ) (i n : ℕ) (says : BothSay s words cells (λ d. reply_piece d i get_availability) (one n))
    (records : List Record) (t : Stands s records words cells) where
  available : n ≡ (piece_at (decode records words cells) i).peer_count + (decode records words cells).seeds
  unfolding reply_piece availability one plain each
  available = let e = says.is records t.bounds in cc e

  -- 6: as many peers with the seeds as may be
  pub peers_yes : 1000 ≤ n
      → check (peers_full (decode records words cells) (piece_at (decode records words cells) i)) TooManyPeers none ≡ some TooManyPeers
  unfolding peers_full
  peers_yes h = check_yes _ TooManyPeers none (le-leb 1000 ((piece_at
      (decode records words cells) i).peer_count + (decode records words cells).seeds) (omega (arith, available)))

  pub peers_no : n < 1000 → check (peers_full (decode records words cells) (piece_at (decode records words cells) i)) TooManyPeers none ≡ none
  unfolding peers_full
  peers_no h = check_no _ TooManyPeers none (lt-leb 1000 ((piece_at
      (decode records words cells) i).peer_count + (decode records words cells).seeds) (omega (arith, available)))

  -- 7: neither a seed nor a peer
  abbrev nobody : Bool
  nobody = eqb (decode records words cells).seeds 0 && eqb (piece_at (decode records words cells) i).peer_count 0

  pub nobody_yes : n ≡ 0 → check nobody NoPeerToTake none ≡ some NoPeerToTake
  nobody_yes h = check_yes nobody NoPeerToTake none
      (none_at_all (decode records words cells).seeds (piece_at (decode records words cells) i).peer_count (omega (arith, available)))

  pub nobody_no : (n ≡ 0 → ⊥) → check nobody NoPeerToTake none ≡ none
  nobody_no h = check_no nobody NoPeerToTake none
      (some_at_all (decode records words cells).seeds (piece_at (decode records words cells) i).peer_count (omega (arith, available)))

-- ---- not refused: such a piece, and room for one more, or one to take
module _ (s : Shape) (records : List Record) (words cells : List ℕ) (t : Stands s records words cells) (i : ℕ) (draws : Draws) where
  pub inc_passed : refusal (decode records words cells) (do_inc_refcount i draws) ≡ none
      → (i < s.pieces) × (piece_cell cells s.pieces 0 i + head_word words 2 < max_peers)
  unfolding refusal peers_full
  inc_passed h =
      let b = do_piece_passed s records words cells t i _ (few_passed draws _ h).1 in
      let c = check-none _ TooManyPeers none b.1 in (
        b.0,
        omega (
          arith,
          leb-false 1000 ((piece_at (decode records words cells) i).peer_count + head_word words 2) c.0,
          peer_count_is s records words cells t.bounds i b.0,
        ),
      )

  pub dec_passed : refusal (decode records words cells) (do_dec_refcount i draws) ≡ none
      → (i < s.pieces) × (0 < piece_cell cells s.pieces 0 i + head_word words 2)
  unfolding refusal
  dec_passed h =
      let b = do_piece_passed s records words cells t i _ (few_passed draws _ h).1 in
      let c = check-none _ NoPeerToTake none b.1 in (
        b.0,
        omega (
          arith,
          not_none (head_word words 2) (piece_at (decode records words cells) i).peer_count c.0,
          peer_count_is s records words cells t.bounds i b.0,
        ),
      )

-- The tests of 4, 11 and 12, as the definition has them. Assumes nothing.
use Rattle.std.specs.Prelude.{Err, Ok}
use mathlib.Core.Path.{◌≡◌, refl, sym, ap, ap₂, ◌∙◌}
use mathlib.Core.Bool.{Bool, true, false, not, ◌&&◌}
use mathlib.Core.List.{List, [], ◌∷◌}
use mathlib.Core.Option.{Option, none, some}
use Prim.Native.Nat.{ℕ, suc, ◌+◌, ◌%◌, ◌≤◌, ◌<◌}
use lib.Dec.{eqb, ltb, leb}
use lib.IntN.{ℤ}
use lib.ListN.{length}
use borrow.Author.Tests.{lt-ltb, le-ltb, leb-true}
use Rattle.types.specs.Bits.{meets}
use Rattle.types.specs.Piece.{number_of}
use Rattle.types.specs.declared.refusal.Refusal.{Refusal}
use Rattle.types.specs.declared.refusal.Refusal.TheVariants.{FewDraws, PickArguments, ShortOutput}
use Rattle.model.specs.Lists.{len, each}
use Rattle.model.specs.Bep3.{bitfield_bytes}
use Rattle.model.specs.State.{Picker, pieces_in}
use Rattle.model.specs.Options.{rarest_first, sequential}
use Rattle.model.specs.list.Order.{Draws}
use Rattle.model.specs.pick.Blocks.{PickRequest, option}
use Rattle.model.specs.Calls.{do_pick_pieces, check, refuse_few_draws, bitfield_fits, request_fits, refusal}
use Rattle.model.proofs.base.Truths.{and_left, and_right}
use Rattle.memory_layout.specs.declared.shape.Shape.{Shape}
use Rattle.pick_state.specs.declared.request.PickRequest.{PickRequest as Request}
use Rattle.pick_start.specs.Starting.{request_with}
use Rattle.pick_judge.specs.declared.arguments.PickInput.{PickInput}
use Rattle.pick_judge.specs.Asking.{request_numbers, numbers_fit, RequestSays, PickJudged}

-- ---- what is asked
pub request_made : (a : PickInput) (w c p l : ℕ) → w ≡ number_of a.num_blocks → c ≡ number_of a.prefer_contiguous_blocks
    → p ≡ number_of a.num_peers → l ≡ a.peer % 18446744073709551616
    → record { options = a.options; wanted = w; contiguous = c; peers = p; has_peer = a.has_peer; peer = l; bits = a.bits } ≡
    request_numbers a
unfolding request_numbers
request_made a w c p l ew ec ep el = rw (ew, ec, ep, el)

-- ---- 11
-- the tests in the code's order, and in the definition's
order : (a b c d e f g h : Bool) → (((((((a && b) && c) && d) && e) && f) && g) && h) ≡ (a && (b && (c && (d && (f && (e && (g && h)))))))
order false b c d e f g h = refl
order true false c d e f g h = refl
order true true false d e f g h = refl
order true true true false e f g h = refl
order true true true true false true g h = refl
order true true true true false false g h = refl
order true true true true true false g h = refl
order true true true true true true g h = refl

module _ (s : Shape) (q : Request) (many suggested : ℕ) (fit : Bool) (ef : fit ≡ numbers_fit q) (most : ℕ)
    (em : most ≡ bitfield_bytes q.bits) where
  fits_few : (((fit && leb suggested 256) && eqb q.bits s.pieces) && eqb many most) ≡ true → (q.wanted ≤ 2048) ×
      (q.contiguous ≤ 2048)
  unfolding numbers_fit
  fits_few h =
      let a = sym ef ∙ and_left fit (leb suggested 256) (and_left (fit && leb suggested 256) (eqb q.bits s.pieces)
      (and_left ((fit && leb suggested 256) && eqb q.bits s.pieces) (eqb many most) h)) in
      let w = leb 1 q.wanted && leb q.wanted 2048 in
      let b = and_left ((w && leb q.contiguous 2048) && leb q.peers 1000)
      (not (meets q.options.0 rarest_first && meets q.options.0 sequential)) a in
      let c = and_left (w && leb q.contiguous 2048) (leb q.peers 1000) b in (
        leb-true q.wanted 2048 (and_right (leb 1 q.wanted) (leb q.wanted 2048) (and_left w (leb q.contiguous 2048) c)),
        leb-true q.contiguous 2048 (and_right w (leb q.contiguous 2048) c),
      )

  fits_is : (d : Picker) → pieces_in d ≡ s.pieces → (bytes suggestions : List ℕ) → length bytes ≡ many → len suggestions ≡ suggested
      → (((fit && leb suggested 256) && eqb q.bits s.pieces) && eqb many most) ≡ request_fits d (request_with q bytes suggestions)
  unfolding numbers_fit request_fits bitfield_fits option request_with len
  fits_is d ed bytes suggestions eb es =
      ap (λ (x : Bool). (((x && leb suggested 256) && eqb q.bits s.pieces) && eqb many most)) ef
      ∙ order (leb 1 q.wanted) (leb q.wanted 2048) (leb q.contiguous 2048) (leb q.peers 1000)
      (not (meets q.options.0 rarest_first && meets q.options.0 sequential)) (leb suggested 256) (eqb q.bits s.pieces)
      (eqb many most)
      ∙ rest (leb suggested 256) (leb (len suggestions) 256) (ap (λ (n : ℕ). leb n 256) (sym es)) (eqb q.bits s.pieces)
      (eqb q.bits (pieces_in d))
      (ap (eqb q.bits) (sym ed)) (eqb many most) (eqb (length bytes) (bitfield_bytes q.bits)) (ap₂ eqb (sym eb) em)
    where
      rest : (f f' : Bool) → f ≡ f' → (g g' : Bool) → g ≡ g' → (h h' : Bool) → h ≡ h'
          → (leb 1 q.wanted && (leb q.wanted 2048 && (leb q.contiguous 2048 && (leb q.peers 1000
          && (f && (not (meets q.options.0 rarest_first && meets q.options.0 sequential) && (g && h)))))))
          ≡ (leb 1 q.wanted && (leb q.wanted 2048 && (leb q.contiguous 2048 && (leb q.peers 1000
          && (f' && (not (meets q.options.0 rarest_first && meets q.options.0 sequential) && (g' && h')))))))
      rest f f' x g g' y h h' z = rw (x, y, z)

  pub request_says : (r : Bool) → r ≡ (((fit && leb suggested 256) && eqb q.bits s.pieces) && eqb many most) → RequestSays s q many
      suggested r
  request_says r e = record {
    is = λ d ed bytes suggestions eb es. e ∙ fits_is d ed bytes suggestions eb es;
    few = λ h. fits_few
        (sym e ∙ h);
  }

-- ---- the table
yes : (t : Bool) (why : Refusal) (r : Option Refusal) → t ≡ true → check t why r ≡ some why
unfolding check
yes t why r e = rw e refl

no : (t : Bool) (why : Refusal) (r : Option Refusal) → t ≡ false → check t why r ≡ r
unfolding check
no t why r e = rw e refl

pub many_each : (l : List ℤ) → len (each number_of l) ≡ length l
unfolding len each
many_each [] = refl
many_each (x ∷ l) = ap suc (many_each l)

module _ (s : Shape) (q : Request) (bytes : List ℕ) (lent : List ℤ) (draws : Draws) (free : ℕ) where
  abbrev a : PickRequest
  a = request_with q bytes (each number_of lent)

  -- 4
  pub judged_few : length draws < 4352 → PickJudged s (do_pick_pieces a free draws) (Err FewDraws)
  unfolding refusal refuse_few_draws len
  judged_few h = record { is = λ d e. sym (yes _ FewDraws _ (lt-ltb (length draws) 4352 h)) }

  module _ (enough : 4352 ≤ length draws) (r : Bool) (x : RequestSays s q (length bytes) (length lent) r) where
    after_four : (d : Picker) → refusal d (do_pick_pieces a free draws)
        ≡ check (not (request_fits d a)) PickArguments (check (ltb free (q.wanted + q.contiguous + 255)) ShortOutput none)
    unfolding refusal refuse_few_draws request_with len
    after_four d = no _ FewDraws _ (le-ltb (length draws) 4352 enough)

    -- 11
    pub judged_arguments : not r ≡ true → PickJudged s (do_pick_pieces a free draws) (Err PickArguments)
    judged_arguments h = record {
      is = λ d e. sym (after_four d ∙ yes _ PickArguments _
          (ap not (sym (x.is d e bytes (each number_of lent) refl (many_each lent))) ∙ h));
    }

    module _ (h : not r ≡ false) where
      after_eleven : (d : Picker) → pieces_in d ≡ s.pieces
          → refusal d (do_pick_pieces a free draws) ≡ check (ltb free (q.wanted + q.contiguous + 255)) ShortOutput none
      after_eleven d e =
          after_four d ∙ no _ PickArguments _ (ap not (sym (x.is d e bytes (each number_of lent) refl (many_each lent))) ∙ h)

      -- 12
      pub judged_output : free < q.wanted + q.contiguous + 255 → PickJudged s (do_pick_pieces a free draws) (Err ShortOutput)
      judged_output l = record {
        is = λ d e. sym
            (after_eleven d e ∙ yes _ ShortOutput none (lt-ltb free (q.wanted + q.contiguous + 255) l));
      }

      -- none
      pub judged_passed : q.wanted + q.contiguous + 255 ≤ free → PickJudged s (do_pick_pieces a free draws) (Ok tt)
      judged_passed l = record {
        is = λ d e. sym
            (after_eleven d e ∙ no _ ShortOutput none (le-ltb free (q.wanted + q.contiguous + 255) l));
      }

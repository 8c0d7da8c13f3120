-- One turn of the pass over a partial's blocks. Assumes nothing.
use mathlib.Core.Path.{◌≡◌, refl, sym, ap, ◌∙◌}
use mathlib.Core.Bool.{Bool, true, false, cond}
use mathlib.Core.List.{List, [], ◌∷◌, ◌++◌}
use Prim.Native.Nat.{ℕ, zero, suc, ◌+◌, ◌*◌, ◌-◌, ◌≤◌, ◌<◌}
use native.Mathlib.Omega.{arith}
use lib.Dec.{eqb}
use lib.ListN.{length, drop}
use Rattle.types.specs.declared.block.BlockState.{BlockState}
use Rattle.types.specs.declared.block.BlockState.TheVariants.{None, Requested}
use Rattle.types.specs.Block.{block_state_number}
use Rattle.model.specs.Lists.{bit, len, count}
use Rattle.model.specs.State.{Block, same_block_state}
use Rattle.model.specs.image.Image.{block_kind, Got, got, fault, ret, next, given, judged, obeying, read_block, last_fits, read_last_block}
use Rattle.model.specs.image.Image.{get_blocks}
use Rattle.model.proofs.base.Counts.{count_append, count_le}
use Rattle.model.proofs.image.Bytes.{size_append}
use Rattle.image_records.specs.declared.block.Block.{Block as Numbers}
use Rattle.image_records.specs.Records.{block_numbers}
use Rattle.image_records.proofs.FoundLaws.{BlockGot, judged_under, judged_over}
use Rattle.image_pieces.proofs.NextLaws.{next-got, next-fault}
use Rattle.image_pass.specs.declared.tally.Tally.{Tally}
use Rattle.image_pass.specs.Blocks.{in_state, Tallied, left_blocks, BlocksStand, BlockFails}

-- ---- the definition's reader
given-cond : {A B : Type 0} (t : Bool) (here rest : List ℕ) (a : A) (f : A → B)
    → next (given here rest (obeying t a)) (λ x. ret (f x)) ≡ cond t (got (f a) rest) (fault here)
unfolding given obeying next
given-cond true here rest a f = refl
given-cond false here rest a f = refl

module _ (fits : List Block → Bool) (before : List Block) (at : ℕ) (bytes : List ℕ) where
  left_next : (b : Block) → judged block_kind read_block (drop at bytes) ≡ got b (drop (at + 13) bytes) → (m : ℕ)
      → left_blocks fits before (suc m) at bytes ≡ left_blocks fits (before ++ (b ∷ [])) m (at + 13) bytes
  unfolding left_blocks get_blocks read_last_block last_fits
  left_next b e zero =
      let z : at + 13 - 13 ≡ at = omega arith in
      ap (λ (g : Got Block). next g (λ x. ret (before ++ (x ∷ []))))
      (judged_under block_kind read_block (last_fits fits before) (drop at bytes) b (drop (at + 13) bytes) e)
      ∙ given-cond (fits (before ++ (b ∷ []))) (drop at bytes) (drop (at + 13) bytes) b (λ x. before ++ (x ∷ []))
      ∙ ap (λ (k : ℕ). cond (fits (before ++ (b ∷ []))) (got (before ++ (b ∷ [])) (drop (at + 13) bytes)) (fault (drop k bytes))) (sym z)
  left_next b e (suc m) =
      next-got (judged block_kind read_block (drop at bytes)) (λ x. get_blocks fits (before ++ (x ∷ [])) (suc m)) b (drop (at + 13) bytes) e

  left_fault : judged block_kind read_block (drop at bytes) ≡ fault (drop at bytes) → (m : ℕ)
      → left_blocks fits before (suc m) at bytes ≡ fault (drop at bytes)
  unfolding left_blocks get_blocks read_last_block last_fits
  left_fault e zero =
      next-fault (judged block_kind (read_last_block fits before) (drop at bytes)) (λ x. ret (before ++ (x ∷ []))) (drop at bytes)
      (judged_over block_kind read_block (last_fits fits before) (drop at bytes) refl e)
  left_fault e (suc m) =
      next-fault (judged block_kind read_block (drop at bytes)) (λ x. get_blocks fits (before ++ (x ∷ [])) (suc m)) (drop at bytes) e

-- ---- counts
more_in : (k : BlockState) (bs : List Block) (b : Block) → in_state k (bs ++ (b ∷ [])) ≡ in_state k bs + bit
    (eqb (block_state_number b.state) (block_state_number k))
unfolding in_state count same_block_state
more_in k bs b = count_append (λ x. same_block_state x.state k) bs (b ∷ []) ∙ omega arith

few_in : (k : BlockState) (bs : List Block) → in_state k bs ≤ len bs
unfolding in_state len
few_in k bs = count_le (λ x. same_block_state x.state k) bs

pub tallied_few : (t : Tally) (bs : List Block) → Tallied t bs → (t.free ≤ len bs) × (t.requested ≤ len bs)
tallied_few t bs h = (omega (arith, h.free, few_in None bs), omega (arith, h.requested, few_in Requested bs))

tallied_next : (t u : Tally) (bs : List Block) (b : Block) (x : Numbers) → Tallied t bs → block_numbers b ≡ x
    → (u.free ≡ t.free + bit (eqb x.state 0)) × (u.requested ≡ t.requested + bit (eqb x.state 1)) → Tallied u (bs ++ (b ∷ []))
unfolding block_numbers
tallied_next t u bs b x h e c =
    let s : block_state_number b.state ≡ x.state = ap (λ (y : Numbers). y.state) e in
    record {
      free = c.0 ∙ ap (λ (n : ℕ). n + bit (eqb x.state 0)) h.free ∙ ap (λ (n : ℕ). in_state None bs + bit (eqb n 0)) (sym s) ∙ sym
          (more_in None bs b);
      requested =
          c.1 ∙ ap (λ (n : ℕ). n + bit (eqb x.state 1)) h.requested ∙ ap (λ (n : ℕ). in_state Requested bs + bit (eqb n 1)) (sym s)
          ∙ sym (more_in Requested bs b);
    }

-- ---- the pass
-- j blocks were read and counted, and what is left decides
pub record Reading (start many : ℕ) (bytes : List ℕ) (t : Tally) (at j : ℕ) : Type 0 where
  pub within : j ≤ many
  pub place : at ≡ start + 13 * j
  pub room : at ≤ length bytes
  pub before : List Block
  pub long : len before ≡ j
  pub tallied : Tallied t before
  pub left : (fits : List Block → Bool) → get_blocks fits [] many (drop start bytes) ≡ left_blocks fits before (many - j) at bytes

pub reading_start : (start many : ℕ) (bytes : List ℕ) → start ≤ length bytes → 1 ≤ many
    → Reading start many bytes (record { free = 0; requested = 0 }) start 0
unfolding left_blocks in_state count len
reading_start start many bytes h l =
    let e : many ≡ suc (many - 1) = omega arith in
    let f : suc (many - 1) ≡ many - 0 = omega arith in
    record {
      within = omega arith;
      place = omega arith;
      room = h;
      before = [];
      long = refl;
      tallied = record { free = refl; requested = refl };
      left = λ fits. ap (λ (m : ℕ). get_blocks fits [] m (drop start bytes)) e ∙ ap (λ (m : ℕ). left_blocks fits [] m start bytes) f;
    }

module _ (start many : ℕ) (bytes : List ℕ) (t : Tally) (at j : ℕ) (p : Reading start many bytes t at j) where
  module _ (h : j < many) where
    step_left : (fits : List Block → Bool) → get_blocks fits [] many (drop start bytes) ≡ left_blocks fits p.before
        (suc (many - (j + 1))) at bytes
    step_left fits =
        let e : many - j ≡ suc (many - (j + 1)) = omega arith in
        p.left fits ∙ ap (λ (m : ℕ). left_blocks fits p.before m at bytes) e

    pub reading_next : (x : Numbers) → BlockGot at bytes x → (u : Tally)
        → (u.free ≡ t.free + bit (eqb x.state 0)) × (u.requested ≡ t.requested + bit (eqb x.state 1))
        → Reading start many bytes u (at + 13) (j + 1)
    unfolding len
    reading_next x g u c = record {
      within = omega arith;
      place = omega (arith, p.place);
      room = g.room;
      before = p.before ++ (g.block ∷ []);
      long = size_append p.before (g.block ∷ []) ∙ omega (arith, p.long);
      tallied = tallied_next t u p.before g.block x p.tallied g.numbers c;
      left = λ fits. step_left fits ∙ left_next fits p.before at bytes g.block g.is (many - (j + 1));
    }

    pub reading_fault : judged block_kind read_block (drop at bytes) ≡ fault (drop at bytes) → BlockFails start many bytes at
    reading_fault e fits = record {
      is = step_left fits ∙ left_fault fits p.before at bytes e (many - (j + 1));
      within = p.room;
    }

  pub reading_end : many ≤ j → BlocksStand start many bytes t
  reading_end h =
      let e : j ≡ many = omega (arith, p.within) in
      let f : many - j ≡ 0 = omega arith in
      let g : at ≡ start + 13 * many = omega (arith, p.place) in
      record {
        blocks = p.before;
        long = p.long ∙ e;
        tallied = p.tallied;
        room = omega (arith, p.room);
        is = λ fits. p.left fits ∙ ap (λ (m : ℕ). left_blocks fits p.before m at bytes) f ∙ ap
            (λ (k : ℕ). left_blocks fits p.before 0 k bytes) g;
      }

  pub reading_few : (t.free ≤ j) × (t.requested ≤ j)
  reading_few =
      let f = tallied_few t p.before p.tallied in
      (omega (arith, f.0, p.long), omega (arith, f.1, p.long))

-- What a caller learns from a reader's answer. Assumes nothing.
use Rattle.std.specs.Prelude.{None, Some}
use mathlib.Core.Path.{◌≡◌, refl, ap, ◌∙◌}
use mathlib.Core.Bool.{Bool, true, false}
use mathlib.Core.List.{List}
use mathlib.Core.Option.{Option, none, some}
use Prim.Native.Nat.{ℕ, suc, ◌+◌, ◌≤◌}
use native.Mathlib.Omega.{arith}
use lib.Dec.{eqb, leb}
use lib.ListN.{length, take, drop}
use borrow.Author.Tests.{leb-true}
use Rattle.model.specs.Lists.{nth}
use Rattle.model.specs.State.{Block as BlockRecord}
use Rattle.model.specs.image.Image.{body_length, partial_kind, block_kind, Got, got, fault, starts_with, given, judged, field}
use Rattle.model.specs.image.Image.{all_flags, read_block}
use Rattle.model.specs.image.Image.{read_partial}
use Rattle.model.proofs.image.Codec.{obeying_back}
use Rattle.model.proofs.base.Truths.{both_true}
use Rattle.image_records.specs.declared.block.Block.{Block}
use Rattle.image_records.specs.Records.{body_at, number_step, block_numbers, block_step}
use Rattle.image_records.proofs.FrontLaws.{judged_cases}

-- ---- one number
-- read, it stands there, and the rest starts behind its record
pub record NumberGot (kind : ℕ) (read : List ℕ → Option ℕ) (at : ℕ) (bytes : List ℕ) (x : ℕ) : Type 0 where
  pub is : judged kind read (drop at bytes) ≡ got x (drop (at + suc (body_length kind)) bytes)
  pub value : read (body_at kind at bytes) ≡ some x
  pub room : at + suc (body_length kind) ≤ length bytes

module _ (kind : ℕ) (read : List ℕ → Option ℕ) (at : ℕ) (bytes : List ℕ) where
  same_number : (n x : ℕ) (rest : List ℕ) (g : Got ℕ) → g ≡ got n rest → Some x ≡ number_step g → n ≡ x
  unfolding number_step
  same_number n x rest g e f = let z : Some x ≡ Some n = f ∙ ap number_step e in cc

  no_number : {X : Type 0} (x : ℕ) (rest : List ℕ) (g : Got ℕ) → g ≡ fault rest → Some x ≡ number_step g → X
  unfolding number_step
  no_number x rest g e f =
      let z : Some x ≡ None = f ∙ ap number_step e in
      let y : ◌≡◌ {A = ℕ} 0 1 = cc in
      absurd (omega arith)

  pub number_got : (x : ℕ) → Some x ≡ number_step (judged kind read (drop at bytes)) → NumberGot kind read at bytes x
  number_got x f =
      judged_cases kind read at bytes (λ e. no_number x (drop at bytes) (judged kind read (drop at bytes)) e f)
      (λ n room r e.
      let q : n ≡ x = same_number n x _ (judged kind read (drop at bytes)) e f in
      record {
        is = e ∙ ap (λ (k : ℕ). got k (drop (at + suc (body_length kind)) bytes)) q;
        value = r ∙ ap some q;
        room = room;
      })

  pub number_bad : None ≡ number_step (judged kind read (drop at bytes)) → judged kind read (drop at bytes) ≡ fault (drop at bytes)
  unfolding number_step
  number_bad f =
      judged_cases kind read at bytes (λ e. e)
      (λ n room r e.
      let z : None ≡ Some n = f ∙ ap number_step e in
      let y : ◌≡◌ {A = ℕ} 0 1 = cc in
      absurd (omega arith))

-- the flags of a partial that was read
pub flags_most : (i n at : ℕ) (bytes : List ℕ) (x : ℕ) → NumberGot partial_kind (read_partial i n) at bytes x → x ≤ all_flags
unfolding read_partial
flags_most i n at bytes x g =
    let body = body_at partial_kind at bytes in
    obeying_back _ (field 4 1 body) x g.value λ t q.
    let u = both_true (eqb (field 0 4 body) i) _ t in
    let v = both_true (leb (field 4 1 body) all_flags) _ u.1 in
    omega (arith, leb-true (field 4 1 body) all_flags v.0, q)

-- ---- a block
-- read, it stands there, and the rest starts thirteen bytes on
pub record BlockGot (at : ℕ) (bytes : List ℕ) (x : Block) : Type 0 where
  pub block : BlockRecord
  pub is : judged block_kind read_block (drop at bytes) ≡ got block (drop (at + 13) bytes)
  pub room : at + 13 ≤ length bytes
  pub numbers : block_numbers block ≡ x

module _ (at : ℕ) (bytes : List ℕ) where
  same_block : (b : BlockRecord) (x : Block) (rest : List ℕ) (g : Got BlockRecord) → g ≡ got b rest → Some x ≡ block_step g →
      block_numbers b ≡ x
  unfolding block_step
  same_block b x rest g e f = let z : Some x ≡ Some (block_numbers b) = f ∙ ap block_step e in cc

  no_block : {X : Type 0} (x : Block) (rest : List ℕ) (g : Got BlockRecord) → g ≡ fault rest → Some x ≡ block_step g → X
  unfolding block_step
  no_block x rest g e f =
      let z : Some x ≡ None = f ∙ ap block_step e in
      let y : ◌≡◌ {A = ℕ} 0 1 = cc in
      absurd (omega arith)

  pub block_got : (x : Block) → Some x ≡ block_step (judged block_kind read_block (drop at bytes)) → BlockGot at bytes x
  unfolding body_length nth
  block_got x f =
      judged_cases block_kind read_block at bytes (λ e. no_block x (drop at bytes) (judged block_kind read_block (drop at bytes)) e f)
      (λ b room r e.
      record { block = b; is = e; room = room; numbers = same_block b x _ (judged block_kind read_block (drop at bytes)) e f })

  pub block_bad : None ≡ block_step (judged block_kind read_block (drop at bytes)) → judged block_kind read_block (drop at bytes) ≡
      fault (drop at bytes)
  unfolding block_step
  block_bad f =
      judged_cases block_kind read_block at bytes (λ e. e)
      (λ b room r e.
      let z : None ≡ Some (block_numbers b) = f ∙ ap block_step e in
      let y : ◌≡◌ {A = ℕ} 0 1 = cc in
      absurd (omega arith))

-- ---- a rule on top of a reader's
-- what is read under a further rule: the same, or a fault
pub judged_under : {A B : Type 0} (kind : ℕ) (read : List ℕ → Option A) (further : Option A → Option B) (bs : List ℕ) (a : A)
    (rest : List ℕ)
    → judged kind read bs ≡ got a rest → judged kind (λ body. further (read body)) bs ≡ given bs rest (further (some a))
unfolding judged given
judged_under {A} {B} kind read further bs a rest e =
    go (starts_with kind bs) (drop (suc (body_length kind)) bs) (read (take (body_length kind) (drop 1 bs))) e
  where
    go : (t : Bool) (after : List ℕ) (o : Option A) → ◌≡◌ {A = Got A} (elim t [ true ↦ given bs after o | false ↦ fault bs ]) (got a rest)
        → ◌≡◌ {A = Got B} (elim t [ true ↦ given bs after (further o) | false ↦ fault bs ]) (given bs rest (further (some a)))
    go true after none h = let z : ◌≡◌ {A = ℕ} 0 1 = cc in absurd (omega arith)
    go true after (some x) h =
        let p : x ≡ a = cc in
        let q : after ≡ rest = cc in
        rw (p, q)
    go false after o h = let z : ◌≡◌ {A = ℕ} 0 1 = cc in absurd (omega arith)

-- a fault stays one
pub judged_over : {A B : Type 0} (kind : ℕ) (read : List ℕ → Option A) (further : Option A → Option B) (bs : List ℕ)
    → further none ≡ none → judged kind read bs ≡ fault bs → judged kind (λ body. further (read body)) bs ≡ fault bs
unfolding judged given
judged_over {A} {B} kind read further bs n e =
    go (starts_with kind bs) (drop (suc (body_length kind)) bs) (read (take (body_length kind) (drop 1 bs))) e
  where
    go : (t : Bool) (after : List ℕ) (o : Option A) → ◌≡◌ {A = Got A} (elim t [ true ↦ given bs after o | false ↦ fault bs ]) (fault bs)
        → ◌≡◌ {A = Got B} (elim t [ true ↦ given bs after (further o) | false ↦ fault bs ]) (fault bs)
    go true after none h = rw n
    go true after (some x) h = let z : ◌≡◌ {A = ℕ} 0 1 = cc in absurd (omega arith)
    go false after o h = refl

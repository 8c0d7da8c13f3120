-- One turn of the pass that tells whether all blocks are well. Assumes nothing.
use mathlib.Core.Path.{◌≡◌, refl, sym, ap₂, subst, ◌∙◌}
use mathlib.Core.Bool.{true, cond}
use mathlib.Core.List.{List, [], ◌∷◌}
use Prim.Native.Nat.{ℕ, zero, suc, ◌+◌, ◌*◌, ◌-◌, ◌/◌, ◌%◌, ◌≤◌, ◌<◌}
use native.Mathlib.Omega.{arith}
use lib.Bits.{bit_or, and_le_l, and_le_r, or_add_and}
use lib.Dec.{eqb, leb}
use lib.ListN.{length, drop, get_or}
use borrow.Author.Tests.{eq-eqb, lt-ltb, leb-true, eqb-true}
use Rattle.model.specs.Lists.{bit, nth}
use Rattle.model.specs.State.{max_peers}
use Rattle.model.specs.image.Image.{body_length, block_kind, last_block_state, peer_fits, starts_with}
use Rattle.model.proofs.base.Truths.{four_true}
use Rattle.image_bytes.specs.Put.{FieldRead}
use Rattle.image_bytes.proofs.FieldLaws.{read_one}
use Rattle.image_records.specs.declared.block.Block.{Block as Numbers}
use Rattle.image_records.specs.Records.{body_at, block_test}
use Rattle.image_records.proofs.FrontLaws.{Small, starts_here, body_at_lem, body_read}
use Rattle.image_records.proofs.RecordLaws.{block_found}
use Rattle.image_records.proofs.FoundLaws.{BlockGot, block_got}
use Rattle.image_pass.specs.declared.tally.Tally.{Tally}
use Rattle.image_pass.specs.Blocks.{BlocksStand, in_range}
use Rattle.image_pass.proofs.BlockLaws.{Reading, reading_start, reading_next, reading_end, reading_few}

-- ---- numbers
pub or_none : (a b : ℕ) → bit_or a b ≡ 0 → (a ≡ 0) × (b ≡ 0)
or_none a b e = (omega (arith, or_add_and a b, and_le_r a b), omega (arith, or_add_and a b, and_le_l a b))

-- what a block adds to the sum, by its state
abbrev pub weights : List ℕ
weights = 1 ∷ 65536 ∷ 0 ∷ 0 ∷ []

weight_is : (s : ℕ) → s ≤ 3 → get_or weights s 0 ≡ bit (eqb s 0) + 65536 * bit (eqb s 1)
weight_is zero h = refl
weight_is (suc zero) h = refl
weight_is (suc (suc zero)) h = refl
weight_is (suc (suc (suc zero))) h = refl
weight_is (suc (suc (suc (suc s)))) h = absurd (omega arith)

pub weight_most : (s : ℕ) → get_or weights s 0 ≤ 65536
weight_most zero = omega arith
weight_most (suc zero) = omega arith
weight_most (suc (suc zero)) = omega arith
weight_most (suc (suc (suc zero))) = omega arith
weight_most (suc (suc (suc (suc s)))) = omega arith

-- ---- a block
peer_fits_lem : (has peer : ℕ) → has ≤ 1 → cond (eqb has 0) peer 0 ≡ 0 → peer_fits has peer ≡ true
unfolding peer_fits
peer_fits_lem zero peer h e = eq-eqb peer 0 e
peer_fits_lem (suc zero) peer h e = refl
peer_fits_lem (suc (suc has)) peer h e = absurd (omega arith)

pub range_state : (kind state peers has : ℕ) → in_range kind state peers has ≡ true → state ≤ 3
unfolding in_range
range_state kind state peers has t =
    leb-true state last_block_state (four_true (eqb kind block_kind) (leb state last_block_state) (leb has 1) (leb peers max_peers) t).1

-- its numbers as they stand in the bytes
module _ (at : ℕ) (bytes : List ℕ) (small : Small bytes) (room : at + 13 ≤ length bytes) (kind state peers has peer : ℕ)
    (fk : FieldRead at 1 bytes kind) (fs : FieldRead (at + 1) 1 bytes state) (fn : FieldRead (at + 2) 2 bytes peers)
    (fh : FieldRead (at + 4) 1 bytes has) (fp : FieldRead (at + 5) 8 bytes peer) (t : in_range kind state peers has ≡ true) where
  block_starts : starts_with block_kind (drop at bytes) ≡ true
  unfolding in_range body_length nth
  block_starts =
      let q = four_true (eqb kind block_kind) (leb state last_block_state) (leb has 1) (leb peers max_peers) t in
      let first : get_or bytes at 0 ≡ kind = (read_one at bytes (get_or bytes at 0) (omega arith) refl (small at)).is ∙ sym fk.is in
      sym (starts_here block_kind at bytes (omega arith) small (first ∙ eqb-true kind block_kind q.0))
      ∙ lt-ltb (body_length block_kind) (length bytes - at) (omega arith)

  pub block_well : cond (eqb has 0) peer 0 ≡ 0
      → BlockGot at bytes (record { state = state; num_peers = peers; has_peer = eqb has 1; peer = peer })
  unfolding in_range block_test body_length nth
  block_well e =
      let q = four_true (eqb kind block_kind) (leb state last_block_state) (leb has 1) (leb peers max_peers) t in
      let fits : peer_fits has peer ≡ true = peer_fits_lem has peer (leb-true has 1 q.2) e in
      let test : block_test state peers has peer ≡ true = rw (q.1, fits, q.3) in
      block_got at bytes _
      (block_found at bytes block_starts (body_at block_kind at bytes) (body_at_lem block_kind at bytes block_starts) state peers has peer
      (body_read block_kind at 0 1 (at + 1) bytes state (omega arith) (omega arith) fs)
      (body_read block_kind at 1 2 (at + 2) bytes peers (omega arith) (omega arith) fn)
      (body_read block_kind at 3 1 (at + 4) bytes has (omega arith) (omega arith) fh)
      (body_read block_kind at 4 8 (at + 5) bytes peer (omega arith) (omega arith) fp) fp.small test)

-- ---- the pass
-- blocks that were read, with their counts in one sum
pub record Counted (start many : ℕ) (bytes : List ℕ) (sum at j : ℕ) : Type 0 where
  pub free : ℕ
  pub requested : ℕ
  pub is : sum ≡ free + 65536 * requested
  pub reading : Reading start many bytes (record { free = free; requested = requested }) at j

-- j blocks were passed; where no peer stands without its flag, they are well
pub record Passing (start many : ℕ) (bytes : List ℕ) (lone sum at j : ℕ) : Type 0 where
  pub within : j ≤ many
  pub place : at ≡ start + 13 * j
  pub most : sum ≤ 65536 * j
  pub counted : lone ≡ 0 → Counted start many bytes sum at j

pub passing_start : (start many : ℕ) (bytes : List ℕ) → start ≤ length bytes → 1 ≤ many → Passing start many bytes 0 0 start 0
passing_start start many bytes h l = record {
  within = omega arith;
  place = omega arith;
  most = omega arith;
  counted = λ e. record { free = 0; requested = 0; is = refl; reading = reading_start start many bytes h l };
}

module _ (start many : ℕ) (bytes : List ℕ) (lone sum at j : ℕ) (p : Passing start many bytes lone sum at j) where
  pub passing_next : j < many → (x : Numbers) (alone : ℕ) → (alone ≡ 0 → BlockGot at bytes x) → (i : ℕ) → i ≡ x.state → i ≤ 3
      → Passing start many bytes (bit_or lone alone) (sum + get_or weights i 0) (at + 13) (j + 1)
  passing_next h x alone got i ei small = record {
    within = omega arith;
    place = omega (arith, p.place);
    most = omega (arith, p.most, weight_most i);
    counted = λ e.
        let z = or_none lone alone e in
        let k = p.counted z.0 in
        record {
          free = k.free + bit (eqb x.state 0);
          requested = k.requested + bit (eqb x.state 1);
          is = rw (← ei) (omega (arith, k.is, weight_is i small));
          reading = reading_next start many bytes (record { free = k.free; requested = k.requested }) at j k.reading h x (got z.1)
              (record { free = k.free + bit (eqb x.state 0); requested = k.requested + bit (eqb x.state 1) }) (refl, refl);
        };
  }

  pub passing_end : many ≤ j → many ≤ 256 → lone ≡ 0
      → BlocksStand start many bytes (record { free = sum % 65536; requested = sum / 65536 })
  passing_end h l e =
      let k = p.counted e in
      let few = reading_few start many bytes (record { free = k.free; requested = k.requested }) at j k.reading in
      let f : k.free ≡ sum % 65536 = omega (arith, k.is, few.0, p.within) in
      let r : k.requested ≡ sum / 65536 = omega (arith, k.is, few.0, p.within) in
      let t : ◌≡◌ {A = Tally} (record { free = k.free; requested = k.requested }) (record { free = sum % 65536; requested = sum / 65536 })
      = ap₂ (λ (a b : ℕ). record { free = a; requested = b }) f r in
      subst (BlocksStand start many bytes) t (reading_end start many bytes _ at j k.reading h)
